-- `put_digits`, by the cases of the definition
use Prim.Native.Nat.{ℕ, ◌+◌, ◌-◌, ◌/◌, ◌%◌}
use mathlib.Core.Path.{ap, sym, ◌∙◌}
use mathlib.Core.List.{[], ◌∷◌, ◌++◌}
use native.Mathlib.Omega.{arith}
use lib.ListN.{length}
use Rattle.model.specs.PoolFile.{digits_of}
use Rattle.list_laws.proofs.Stores.{put_nothing, put_then, put_as}
use Rattle.pool_laws.proofs.Puts.{room-first, room-rest}
use Rattle.pool_laws.proofs.Decimals.{digits_none, digits_one, digits_more}
use Rattle.pool_decimal.proofs.+put_digits.Goals as goal

pub returns-then-digits-eq0 : goal.returns-then-digits-eq0
returns-then-digits-eq0 t c = put_as _ _ _ _ _ _ (sym (digits_none c.args.digits c.args.n c.if-digits-eq0.true)) (put_nothing _ _)

pub put_byte-requires : goal.put_byte-requires
put_byte-requires t c = omega (arith, c.requires, ap length (digits_one c.args.digits c.args.n c.if-digits-eq0.false c.if-n-lt10.true))

pub returns-then-n-lt10 : goal.returns-then-n-lt10
returns-then-n-lt10 t c =
    put_as _ _ _ _ _ _
    (ap (λ (x : ℕ). x ∷ []) c.digit.ensures ∙ sym (digits_one c.args.digits c.args.n c.if-digits-eq0.false c.if-n-lt10.true))
    c.put_byte.ensures

pub put_digits-end-requires : goal.put_digits-end-requires
put_digits-end-requires t c =
    let a = c.args in
    let e = digits_more a.digits a.n c.if-digits-eq0.false c.if-n-lt10.false in (
      omega (arith, c.decreases, c.if-digits-eq0.false),
      room-first a.at _ (digits_of (a.digits - 1) (a.n / 10)) ((48 + a.n % 10) ∷ []) (rw e at c.requires),
    )

pub put_byte-requires-2 : goal.put_byte-requires-2
put_byte-requires-2 t c =
    let a = c.args in
    let e = digits_more a.digits a.n c.if-digits-eq0.false c.if-n-lt10.false in
    room-rest _ _ _ _ (digits_of (a.digits - 1) (a.n / 10)) ((48 + a.n % 10) ∷ []) (rw e at c.requires) c.put_digits-end.ensures

pub returns : goal.returns
returns t c =
    let a = c.args in
    let e = digits_more a.digits a.n c.if-digits-eq0.false c.if-n-lt10.false in
    put_as _ _ _ _ _ _
    (ap (λ (x : ℕ). digits_of (a.digits - 1) (a.n / 10) ++ (x ∷ [])) c.digit-2.ensures ∙ sym e)
    (put_then _ _ _ _ _ _ _ _ c.put_digits-end.ensures c.put_byte-2.ensures)
