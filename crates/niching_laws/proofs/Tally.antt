-- Laws of counts over lists of plans, and the pigeonhole: of more different plans one is not among fewer.
use Prim.Native.Nat.{ℕ, ◌+◌, ◌<◌}
use mathlib.Core.Path.{◌≡◌, refl, sym, ◌∙◌}
use mathlib.Core.Logic.{◌⊎◌, inl, inr}
use mathlib.Core.Bool.{Bool, true, false, cond}
use mathlib.Core.List.Memᴰ
use mathlib.Core.List.{List, [], ◌∷◌, Nodup, Nodup-cons}
use native.Mathlib.Omega.{arith}
use lib.ListN.{get_or}
use Rattle.model.specs.Lists.{In, has, keep, tally}
use Rattle.list_laws.proofs.Members.{has_in, has-not, in_keep, keep-length, get_d_in, first-apart}

-- the list ps less one x: no plan but x is lost, and the tally falls by x alone
record Less (f : ℕ → Bool) (x : ℕ) (ps : List ℕ) : Type 0 where
  rest : List ℕ
  falls : tally f ps ≡ cond (f x) 1 0 + tally f rest
  others : (p : ℕ) → In p ps → (p ≡ x) ⊎ In p rest

-- what the pigeonhole finds: a plan of xs that passes the test and is not in ys
pub record Extra (f : ℕ → Bool) (xs ys : List ℕ) : Type 0 where
  pub plan : ℕ
  pub listed : In plan xs
  pub passes : f plan ≡ true
  pub absent : In plan ys → ⊥

module _ (f : ℕ → Bool) where
  -- where the tally is not 0, some plan passes: the first that is kept
  pub tally-found : (ps : List ℕ) → 0 < tally f ps → (p : ℕ) × In p ps × (f p ≡ true)
  tally-found ps h =
      let r = in_keep f ps _ (get_d_in (keep f ps) 0 (omega (arith, keep-length f ps))) in (get_or (keep f ps) 0 0, r.0, r.1)

  less : (x : ℕ) (ps : List ℕ) → In x ps → Less f x ps
  unfolding tally
  less x ps (Memᴰ.head {x = q} {xs = qs} e) =
      record { rest = qs; falls = rw e; others = λ p m. go p (Memᴰ.cases_cons m) }
    where
      go : (p : ℕ) → (p ≡ q) ⊎ In p qs → (p ≡ x) ⊎ In p qs
      go p (inl h) = inl (h ∙ sym e)
      go p (inr h) = inr h
  less x ps (Memᴰ.tail {x = q} {xs = qs} m) = more (less x qs m)
    where
      more : Less f x qs → Less f x (q ∷ qs)
      more r = record { rest = q ∷ r.rest; falls = omega (arith, r.falls); others = λ p m. go p (Memᴰ.cases_cons m) }
        where
          deeper : (p : ℕ) → (p ≡ x) ⊎ In p r.rest → (p ≡ x) ⊎ In p (q ∷ r.rest)
          deeper p (inl h) = inl h
          deeper p (inr h) = inr (Memᴰ.tail h)

          go : (p : ℕ) → (p ≡ q) ⊎ In p qs → (p ≡ x) ⊎ In p (q ∷ r.rest)
          go p (inl h) = inr (Memᴰ.head h)
          go p (inr h) = deeper p (r.others p h)

  -- xs are different plans, and more of them pass than of ys: one that passes is not in ys
  pub pigeonhole : (xs ys : List ℕ) → Nodup xs → tally f ys < tally f xs → Extra f xs ys
  unfolding tally
  pigeonhole [] ys d h = absurd (omega arith)
  pigeonhole (x ∷ xs) ys d h = go (f x) refl (has ys x) refl h (λ zs k. pigeonhole xs zs (Nodup-cons.0 d).1 k)
    where
      further : Extra f xs ys → Extra f (x ∷ xs) ys
      further r = record { plan = r.plan; listed = Memᴰ.tail r.listed; passes = r.passes; absent = r.absent }

      -- x is in ys: take it out of both lists
      out : (r : Less f x ys) → Extra f xs r.rest → Extra f (x ∷ xs) ys
      out r t = further (record { plan = t.plan; listed = t.listed; passes = t.passes; absent = λ m. no_more (r.others t.plan m) })
        where
          no_more : (t.plan ≡ x) ⊎ In t.plan r.rest → ⊥
          no_more (inl e) = first-apart d (Memᴰ.cast (sym e) t.listed)
          no_more (inr m) = t.absent m

      go : (b : Bool) → f x ≡ b → (k : Bool) → has ys x ≡ k → tally f ys < cond b 1 0 + tally f xs → ((zs : List ℕ) → tally f zs < tally f xs → Extra f xs zs) → Extra f (x ∷ xs) ys
      go false e k i less-than ih = further (ih ys (omega arith))
      go true e false i less-than ih = record { plan = x; listed = Memᴰ.head refl; passes = e; absent = has-not ys x i }
      go true e true i less-than ih =
          let r : Less f x ys = less x ys (has_in ys x i) in
          let drop : tally f ys ≡ 1 + tally f r.rest = rw e at r.falls in
          out r (ih r.rest (omega arith))
