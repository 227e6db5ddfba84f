-- Draws that are written at once: one more, and a plan's.
use Prim.Native.Nat.{ℕ, ◌+◌}
use mathlib.Core.Path.{◌≡◌, refl, ap, sym, subst, ◌∙◌}
use mathlib.Core.Bool.{Bool, true, false}
use mathlib.Core.List.{List, [], ◌∷◌, ◌++◌, map, map-append, flatten, append-nil, append_assoc}
use lib.Ieee.{Float}
use lib.ListN.{length, length-map}
use Rattle.model.specs.Real.{◌⊖◌, half, bits}
use Rattle.model.specs.Draw.{Drawn, drawn, draw_f64, draw_all}
use Rattle.model.specs.Plan.{Plan}
use Rattle.model.specs.PoolFile.{written, written_all, row_numbers}
use Rattle.model.specs.Load.{draw_constraint, draw_plan, rows_of}
use Rattle.list_laws.proofs.Draws.{drawn-by, draw_all_none, draw_all-more, draw_all-length}
use Rattle.form_laws.proofs.Lists.{written_none, written-more, written-append}
use Rattle.pool_form.specs.Form.{Adds}
use Rattle.pool_form.proofs.Pieces.{adds_none, adds_then, adds_as}
use Rattle.load_draws.specs.Drawing.{draw_one, draw_some, real_numbers, plan_numbers, plans_numbers, Draws}

-- ---- one after the other

-- the numbers of one more are behind those before it
module _ {A : Type 0} (all : List A → List ℕ) (numbers : A → List ℕ) (next : ℕ → List A → ℕ → Drawn A) where
  pub draws_none : all [] ≡ [] → (s : ℕ) (o : List ℕ) (at : ℕ) → Draws all (draw_all next 0 s) o at o at s
  draws_none e s o at = subst (λ d. Draws all d o at o at s) (draw_all_none next s)
      (record { puts = adds_as o o at at [] _ (sym (ap written_all e ∙ written_none)) (adds_none o at); state = refl })

  pub draws_more : ((l : List A) (a : A) → all (l ++ (a ∷ [])) ≡ all l ++ numbers a)
      → (n s : ℕ) (o₀ : List ℕ) (at : ℕ) (o : List ℕ) (p t : ℕ) (o₂ : List ℕ) (r u : ℕ) → Draws all (draw_all next n s) o₀ at o p t
      → Draws numbers (next n (draw_all next n s).value t) o p o₂ r u → Draws all (draw_all next (n + 1) s) o₀ at o₂ r u
  draws_more more n s o₀ at o p t o₂ r u h d =
      let l = (draw_all next n s).value in
      let v = next n l t in
      subst (λ e. Draws all e o₀ at o₂ r u)
      (draw_all-more next n s {l = l} {t = (draw_all next n s).state} {a = v.value} {u = v.state} refl (ap (next n l) h.state))
      (record {
        puts = adds_as o₀ o₂ at r _ _ (sym (ap written_all (more l v.value) ∙ written-append (all l) (numbers v.value)))
            (adds_then o₀ o o₂ at p r _ _ h.puts d.puts);
        state = d.state;
      })

pub real-more : (l : List Float) (x : Float) → map bits (l ++ (x ∷ [])) ≡ map bits l ++ real_numbers x
real-more l x = map-append bits l (x ∷ [])

flatten_one : (l : List (List ℕ)) (a : List ℕ) → flatten (l ++ (a ∷ [])) ≡ flatten l ++ a
unfolding flatten
flatten_one [] a = append-nil a
flatten_one (x ∷ l) a = ap (λ t. x ++ t) (flatten_one l a) ∙ sym (append_assoc x (flatten l) a)

pub plan_none : plans_numbers [] ≡ []
unfolding flatten
plan_none = refl

pub plan-more : (l : List Plan) (p : Plan) → plans_numbers (l ++ (p ∷ [])) ≡ plans_numbers l ++ plan_numbers p
plan-more l p =
    ap (λ t. flatten (map row_numbers t)) (map-append rows_of l (p ∷ [])) ∙ ap flatten (map-append row_numbers (map rows_of l) (rows_of p ∷ []))
    ∙ flatten_one (map row_numbers (map rows_of l)) (plan_numbers p)

-- ---- one real

module _ (lowered : Bool) (x : Float) (s t : ℕ) (e : drawn x t ≡ draw_f64 s) where
  pub one-lowered : lowered ≡ true → drawn (x ⊖ half) t ≡ draw_one lowered s
  unfolding draw_constraint
  one-lowered h = drawn-by (λ y. y ⊖ half) e ∙ ap (λ b. draw_one b s) (sym h)

  pub one_plain : lowered ≡ false → drawn x t ≡ draw_one lowered s
  one_plain h = e ∙ ap (λ b. draw_one b s) (sym h)

pub draws_one : (d : Drawn Float) (x : Float) (t w : ℕ) (o : List ℕ) (at : ℕ) (o₁ : List ℕ) (r : ℕ) → drawn x t ≡ d → w ≡ bits x
    → Adds (written w) o at o₁ r → Draws real_numbers d o at o₁ r t
draws_one d x t w o at o₁ r e z p = subst (λ y. Draws real_numbers y o at o₁ r t) e (record {
  puts = adds_as o o₁ at r _ _ (ap written z ∙ sym (written-more (bits x) [] ∙ ap (λ l. written (bits x) ++ l) written_none ∙ append-nil (written (bits x)))) p;
  state = refl;
})

-- ---- a plan

pub draws_plan : (m c s : ℕ) (o₀ : List ℕ) (at : ℕ) (o₁ : List ℕ) (r₁ t₁ : ℕ) (o₂ : List ℕ) (r₂ : ℕ) (o₃ : List ℕ) (r₃ t₃ : ℕ)
    → Draws (map bits) (draw_some false m s) o₀ at o₁ r₁ t₁ → Adds (written c) o₁ r₁ o₂ r₂ → Draws (map bits) (draw_some true c t₁) o₂ r₂ o₃ r₃ t₃
    → Draws plan_numbers (draw_plan m c s) o₀ at o₃ r₃ t₃
unfolding draw_plan
draws_plan m c s o₀ at o₁ r₁ t₁ o₂ r₂ o₃ r₃ t₃ row number rest =
    let values = map bits (draw_some false m s).value in
    subst (λ t. Draws (map bits) (draw_some true c t) o₂ r₂ o₃ r₃ t₃ → Draws plan_numbers (draw_plan m c s) o₀ at o₃ r₃ t₃) (sym row.state)
    (λ rest'.
    let constraints = map bits (draw_some true c (draw_some false m s).state).value in
    let count : length constraints ≡ c = length-map (draw_some true c (draw_some false m s).state).value bits ∙ draw_all-length (λ j l. draw_constraint) c (draw_some false m s).state in
    record {
      puts = adds_as o₀ o₃ at r₃ (written_all values ++ (written c ++ written_all constraints)) _
          (ap (λ k. written_all values ++ (written k ++ written_all constraints)) (sym count)
          ∙ ap (λ l. written_all values ++ l) (sym (written-more (length constraints) constraints))
          ∙ sym (written-append values (length constraints ∷ constraints)))
          (adds_then o₀ o₁ o₃ at r₁ r₃ _ _ row.puts (adds_then o₁ o₂ o₃ r₁ r₂ r₃ _ _ number rest'.puts));
      state = rest'.state;
    })
    rest
