-- The least over the plans that count, plan by plan; the words remembered; and a session with the ideal that its selection starts from.
use Rattle.std.specs.Prelude.{Option, is_some}
use Prim.Native.Nat.{ℕ, ◌+◌, ◌-◌, ◌≤◌}
use mathlib.Core.Path.{◌≡◌, refl, sym, ap, ap₂, ◌∙◌}
use mathlib.Core.Bool.{true≢false, false≢true, Bool, true, false, cond, not, ◌||◌}
use mathlib.Core.List.{List, ◌++◌}
use native.Mathlib.Omega.{arith}
use borrow.Author.Tests.{eq-eqb, ne_eqb}
use lib.Dec.{eqb}
use lib.Ieee.{Float, lt}
use lib.ListN.{length, get_or, take, drop, length-drop, length-append}
use lib.Seq.{get_or-take, length-take-le, sets, get_or-drop, drop-append-le, take_at}
use Rattle.list_laws.proofs.Best.{among_more}
use Rattle.list_laws.proofs.Bools.{by_bool, by_option}
use Rattle.list_laws.proofs.Tests.{all_in-below, all_below-same, all_below_any}
use Rattle.list_laws.proofs.Built.{list_below-take, over-front, over_run}
use Rattle.list_laws.proofs.Kept.{keep_below_no}
use Rattle.model.specs.declared.Edition.{Edition}
use Rattle.model.specs.declared.Edition.TheVariants.{First, Second}
use Rattle.model.specs.declared.Session.{Session}
use Rattle.model.specs.Edition.{waiting_of}
use Rattle.model.specs.Lists.{all_in, all_below, any_below, list_below, keep_below, over}
use Rattle.model.specs.Association.{least_from}
use Rattle.model.specs.Kept.{without_line}
use Rattle.model.specs.Window.{least_remembered, last_of}
use Rattle.model.specs.Session.{memory_at, with_ideal, start_by, start_ideal}
use Rattle.session_window.specs.Sources.{has_line, least_by}

-- at most as many plans wait as the size
pub waiting_few : (e : Edition) (size : ℕ) → waiting_of e size ≤ size
waiting_few First size = omega arith
waiting_few Second size = omega arith

-- ---- a value that counts, and one that does not

pub least_taken : (t : Bool) (v x least : Float) → t ≡ true → x ≡ v → lt x least ≡ true → x ≡ least_by t v least
least_taken t v x least e f h = f ∙ sym (ap (λ (b : Bool). least_by b v least) e ∙ ap (λ (b : Bool). cond b v least) (ap (λ (y : Float). lt y least) (sym f) ∙ h))

pub least_kept : (t : Bool) (v x least : Float) → t ≡ true → x ≡ v → lt x least ≡ false → least ≡ least_by t v least
least_kept t v x least e f h = sym (ap (λ (b : Bool). least_by b v least) e ∙ ap (λ (b : Bool). cond b v least) (ap (λ (y : Float). lt y least) (sym f) ∙ h))

-- one plan more
pub least_more : (b : Float) (f : ℕ → Float) (t : ℕ → Bool) (n : ℕ) (takes : Bool) (least r : Float) → takes ≡ t n → least ≡ least_from b f (keep_below t n)
    → r ≡ least_by takes (f n) least → r ≡ least_from b f (keep_below t (n + 1))
least_more b f t n takes least r e g h = by_bool (t n)
    (λ y. h ∙ ap (λ (c : Bool). least_by c (f n) least) (e ∙ y) ∙ among_more lt b f t n y g refl)
    (λ y. h ∙ ap (λ (c : Bool). least_by c (f n) least) (e ∙ y) ∙ g ∙ ap (least_from b f) (sym (keep_below_no t n y)))

-- ---- lines

pub no_line-here : (lines : List ℕ) (p : ℕ) → get_or lines p 0 ≡ without_line → has_line lines p ≡ false
no_line-here lines p e = ap not (eq-eqb (get_or lines p 0) without_line e)

pub line-here : (lines : List ℕ) (p : ℕ) → (get_or lines p 0 ≡ without_line → ⊥) → has_line lines p ≡ true
line-here lines p e = ap not (ne_eqb (get_or lines p 0) without_line e)

pub counts-not : (every : Bool) (line : ℕ) → every ≡ false → line ≡ without_line → false ≡ (every || not (eqb line without_line))
counts-not every line e f = sym (ap (λ (b : Bool). b || not (eqb line without_line)) e ∙ ap not (eq-eqb line without_line f))

pub counts_so : (every : Bool) (line : ℕ) → every ≡ false → (line ≡ without_line → ⊥) → true ≡ (every || not (eqb line without_line))
counts_so every line e f = sym (ap (λ (b : Bool). b || not (eqb line without_line)) e ∙ ap not (ne_eqb line without_line f))

-- that each of the first n lines is none says that none of n plans has one
pub no_line-each : (lines : List ℕ) (n : ℕ) → n ≤ length lines → all_in (λ line. eqb line without_line) (take n lines) ≡ not (any_below (has_line lines) n)
no_line-each lines n h =
    all_in-below (λ line. eqb line without_line) 0 (take n lines)
    ∙ ap (all_below (λ p. eqb (get_or (take n lines) p 0) without_line)) (length-take-le n lines h)
    ∙ all_below-same _ (λ p. eqb (get_or lines p 0) without_line) n (λ p v. ap (λ line. eqb line without_line) (get_or-take n lines p 0 v))
    ∙ all_below_any (λ p. eqb (get_or lines p 0) without_line) n

-- ---- the words remembered, taken up

-- a part of a slice, place by place
pub part_of : (l : List ℕ) (at n : ℕ) → at + n ≤ length l → take (at + n - at) (drop at l) ≡ list_below (λ i. get_or l (at + i) 0) n
part_of l at n h =
    let e : at + n - at ≡ n = omega arith in
    ap (λ (k : ℕ). take k (drop at l)) e ∙ list_below-take (λ i. get_or l (at + i) 0) n 0 (drop at l) (omega (arith, length-drop at l, h)) (λ t g. get_or-drop at l t 0)

-- words put at a slice's front, and others behind them
pub two_runs : (l a b l₁ l₂ : List ℕ) → length a + length b ≤ length l → l₁ ≡ sets l 0 a → l₂ ≡ sets l₁ (length a) b → l₂ ≡ over (a ++ b) l
two_runs l a b l₁ l₂ h e f =
    f ∙ ap (λ (x : List ℕ). sets x (length a) b) (e ∙ over-front a l (omega (arith, h))) ∙ over_run a b l (length a) refl h

-- what is left of them past a place
pub tail_of : (l w : List ℕ) (from end : ℕ) → length w ≡ end → from ≤ end → take (end - from) (drop from (over w l)) ≡ drop from w
tail_of l w from end e h =
    let k : length w - from ≡ end - from = ap (λ (x : ℕ). x - from) e in
    ap (take (end - from)) (drop-append-le from w (drop (length w) l) (omega (arith, e, h)))
    ∙ take_at (drop from w) (drop (length w) l) (end - from) (length-drop from w ∙ k)

-- the last of both, put back
pub remembered_is : (pool a b m₀ m₁ m₂ last : List ℕ) (at at₀ held m from most most₀ : ℕ) → at₀ ≡ at → most₀ ≡ most → from ≡ held + m - most₀ → length a ≡ held → length b ≡ m
    → held + m ≤ length m₀ → m₁ ≡ sets m₀ 0 a → m₂ ≡ sets m₁ held b → last ≡ sets pool at₀ (take (held + m - from) (drop from m₂)) → last ≡ sets pool at (last_of most (a ++ b))
remembered_is pool a b m₀ m₁ m₂ last at at₀ held m from most most₀ p q f la lb room e₁ e₂ e =
    let w = a ++ b in
    let lw : length w ≡ held + m = omega (arith, length-append a b, la, lb) in
    let both : m₂ ≡ over w m₀ = two_runs m₀ a b m₁ m₂ (omega (arith, la, lb, room)) e₁ (e₂ ∙ ap (λ (k : ℕ). sets m₁ k b) (sym la)) in
    let start : from ≡ length w - most = omega (arith, f, q, lw) in
    e
    ∙ ap₂ (λ (k : ℕ) (x : List ℕ). sets pool k x) p
    (ap (λ (x : List ℕ). take (held + m - from) (drop from x)) both ∙ tail_of m₀ w from (held + m) lw (omega (arith, f)) ∙ ap (λ (k : ℕ). drop k w) start)

-- ---- a session with the ideal that its selection starts from

pub slid_without : (s : Session) (pool : List ℕ) → is_some s.config.window ≡ false → s ≡ with_ideal s (start_ideal s pool)
unfolding start_ideal
slid_without s pool h =
    by_option s.config.window
    (λ e. sym (ap (λ (o : Option ℕ). with_ideal s (start_by o s pool)) e))
    (λ w e. absurd (true≢false (sym (ap is_some e) ∙ h)))

pub slid_with : (s : Session) (pool : List ℕ) (at : ℕ) (ideal : List Float) → is_some s.config.window ≡ true → at ≡ memory_at s.config
    → ideal ≡ over (list_below (least_remembered pool at s.config.n_obj s.progress.n_remembered) s.config.n_obj) s.ideal_point
    → with_ideal s ideal ≡ with_ideal s (start_ideal s pool)
unfolding start_ideal
slid_with s pool at ideal h f g =
    by_option s.config.window
    (λ e. absurd (false≢true (sym (ap is_some e) ∙ h)))
    (λ w e. ap (with_ideal s)
    (g ∙ ap (λ (k : ℕ). over (list_below (least_remembered pool k s.config.n_obj s.progress.n_remembered) s.config.n_obj) s.ideal_point) f
    ∙ sym (ap (λ (o : Option ℕ). start_by o s pool) e)))
