-- DEMAND 3 of every selection from a pool of at least the size wanted, where a front is split and where none is.
use Prim.Native.Nat.{ℕ, suc, ◌+◌, ◌-◌, ◌≤◌, ◌<◌}
use mathlib.Core.Path.{◌≡◌, sym, ap, ◌∙◌, subst, fun_ext}
use mathlib.Core.Logic.{◌⊎◌, inl, inr, ⊎_elim}
use mathlib.Core.Bool.{true, false, true≢false}
use mathlib.Core.List.Memᴰ
use mathlib.Core.List.{List, ◌++◌}
use native.Mathlib.Omega.{arith}
use lib.Dec.{eqb}
use lib.Ieee.{Float, is_nan}
use lib.ListN.{length, length-append}
use Rattle.model.specs.Lists.{In, Distinct}
use Rattle.model.specs.Papers.Deb2002.{in_first, in_front}
use Rattle.model.specs.Association.{Request, dominance, line_count, association, line_of}
use Rattle.model.specs.Kept.{niche_count, whole_fronts, before, is_split, split_front, filled, selected}
use Rattle.model.specs.Demand3.{Split, Filling, final_count, filling_count, sum_of_squares, Served, Waits, Demand3}
use Rattle.niching_laws.specs.Niching as Niching
use Rattle.niching_laws.specs.Niching.{ByProcedure}
use Rattle.list_laws.proofs.Members.{tally-append, tally-below, distinct_append}
use Rattle.niching_laws.proofs.Picks.{picks-niched}
use Rattle.niching_laws.proofs.Procedure.{picks_procedure, procedure_other}
use Rattle.niching_laws.proofs.Association.{line_of-inside}
use Rattle.front_laws.specs.Strict.{Strict}
use Rattle.list_laws.proofs.Bools.{by_bool, no_pass}
use Rattle.front_laws.proofs.Rounds.{in_first-more}
use Rattle.front_laws.proofs.Rounds.{in_front_new}
use Rattle.front_laws.proofs.Order.{in_front-first, listing-below, listing_exact}
use Rattle.demand3_laws.proofs.Cut.{before-exactly, split-exactly}
use Rattle.demand3_laws.proofs.Fronts.{dominators_first}
use Rattle.demand3_laws.proofs.Sizes.{size_of_len, split-room, split-short, split-kept, split_only, whole_fill, whole-kept, whole_none}

module _ (r : Request) where
  -- no plan of the split front is in a whole one
  pub split-apart : (p : ℕ) → in_front (dominance r) r.count (whole_fronts r) p ≡ true → In p (before r) → ⊥
  split-apart p e i = true≢false (sym ((before-exactly r).passes p i) ∙ in_front_new (dominance r) r.count (whole_fronts r) p e)

  -- a plan that dominates one of the whole fronts, or of the front after them, is in a whole front
  pub better-before : (p q : ℕ) → in_first (dominance r) r.count (suc (whole_fronts r)) p ≡ true → q < r.count → dominance r q p ≡ true → In q (before r)
  better-before p q e h dom = (before-exactly r).every q h (dominators_first (dominance r) r.count (whole_fronts r) p q e h dom)

  -- ---- no front is split

  module _ (strict : Strict (dominance r) r.count) (enough : r.size ≤ r.count) (whole : is_split r ≡ false) where
    whole_demand : Demand3 r (before r)
    whole_demand =
        record {
          listed = sym (whole-kept r strict whole enough);
          in_pool = (before-exactly r).below;
          distinct = (before-exactly r).distinct;
          exactly = whole_fill r strict whole enough;
          none_better = λ p q m h away. no_pass (dominance r q p)
              (λ dom. away (better-before p q (in_first-more (dominance r) r.count (whole_fronts r) p ((before-exactly r).passes p m)) h dom));
          whole = λ k s. absurd (whole_none r strict whole k s);
          least = λ k s. absurd (whole_none r strict whole k s);
          balanced = λ k s. absurd (whole_none r strict whole k s);
        }

  -- ---- a front is split

  module _ (some : 0 < line_count r) (split : is_split r ≡ true) where
    pub setting : Niching.Split (before r) (split_front r) (line_of r) (line_count r)
    setting =
        record {
          distinct = (split-exactly r).distinct;
          apart = λ p m. split-apart p ((split-exactly r).passes p m);
          inside = λ p _. line_of-inside r p some;
        }

    niched : Niching.Niched (before r) (split_front r) (line_of r) (line_count r) (r.size - length (before r)) (filled r).value
    unfolding filled
    niched = picks-niched (λ p. (association r p).distance) setting (r.size - length (before r)) r.state (split-room r split)

    -- the picks are those of the paper's procedure by the distances that are kept beside the plans, where none of them is a NaN
    pub filled_procedure : (d : ℕ → Float) → ((p : ℕ) → In p (split_front r) → (association r p).distance ≡ d p) → ((p : ℕ) → In p (split_front r) → is_nan (d p) ≡ false)
        → ByProcedure (before r) (split_front r) (line_of r) d (line_count r) (filled r).value
    unfolding filled
    filled_procedure d same known =
        procedure_other d same
        (picks_procedure (λ p. (association r p).distance) setting
        (λ p m. ap is_nan (same p m) ∙ known p m) (r.size - length (before r)) r.state (split-room r split))

    abbrev list : List ℕ
    list = before r ++ (filled r).value

    -- a kept plan is of a whole front, or picked from the split one
    kept_cases : (p : ℕ) → In p list → In p (before r) ⊎ In p (split_front r)
    kept_cases p m = ⊎_elim (λ i. inl i) (λ i. inr (niched.fills.members p i)) (Memᴰ.append_cases (before r) m)

    kept-first : (p : ℕ) → In p list → in_first (dominance r) r.count (suc (whole_fronts r)) p ≡ true
    kept-first p m =
        ⊎_elim (λ i. in_first-more (dominance r) r.count (whole_fronts r) p ((before-exactly r).passes p i))
        (λ i. in_front-first (dominance r) r.count (whole_fronts r) p ((split-exactly r).passes p i)) (kept_cases p m)

    list-distinct : Distinct list
    list-distinct = distinct_append (before r) (filled r).value (before-exactly r).distinct niched.fills.distinct (λ p m i. niched.apart p i m)

    -- another filling, and the counts that it gives
    other_filling : (filling : List ℕ) → Filling r (whole_fronts r) filling → Niching.Filling (split_front r) (r.size - length (before r)) filling
    unfolding before
    other_filling filling f =
        record {
          size = f.places ∙ ap (λ (k : ℕ). r.size - k) (size_of_len r (whole_fronts r));
          distinct = f.different;
          members = λ p m. (split-exactly r).every p (f.in_pool p m) (f.from_front p m);
        }

    other-counts : (filling : List ℕ) → niche_count (line_of r) (before r ++ filling) ≡ filling_count r (whole_fronts r) filling
    unfolding before
    other-counts filling =
        fun_ext (λ l.
        tally-append (λ p. eqb (line_of r p) l) (before r) filling
        ∙ ap (λ (k : ℕ). k + final_count r filling l)
        (tally-below (λ p. eqb (line_of r p) l) (in_first (dominance r) r.count (whole_fronts r)) r.count (before r)
        (listing-below (dominance r) r.count (whole_fronts r)) (listing_exact (dominance r) r.count (whole_fronts r))))

    least-here : (filling : List ℕ) → Filling r (whole_fronts r) filling → sum_of_squares r (final_count r list) ≤ sum_of_squares r (filling_count r (whole_fronts r) filling)
    least-here filling f =
        subst (λ (c : ℕ → ℕ). sum_of_squares r (final_count r list) ≤ sum_of_squares r c) (other-counts filling) (niched.least filling (other_filling filling f))

    -- lines served and lines with a plan waiting
    served : (l : ℕ) → Served r (whole_fronts r) list l → Niching.Served (line_of r) (filled r).value l
    served l s =
        record {
          plan = s.plan;
          listed = ⊎_elim (λ i. absurd (split-apart s.plan s.from_front i)) (λ i. i) (Memᴰ.append_cases (before r) s.kept);
          on_line = s.on_line;
        }

    waited : (w : ℕ) → Waits r (whole_fronts r) list w → Niching.Waited (line_of r) (split_front r) (filled r).value w
    waited w s =
        record {
          plan = s.plan;
          waits = record {
            member = (split-exactly r).every s.plan s.in_pool s.from_front;
            unpicked = λ m. s.dropped (Memᴰ.append_right (before r) m);
          };
          on_line = s.on_line;
        }

    balanced-here : (l w : ℕ) → Served r (whole_fronts r) list l → Waits r (whole_fronts r) list w → final_count r list l ≤ suc (final_count r list w)
    balanced-here l w s t = omega (arith, niched.balance l w (served l s) (waited w t))

    split_demand : Demand3 r list
    split_demand =
        record {
          listed = sym (split-kept r split);
          in_pool = λ p m. ⊎_elim ((before-exactly r).below p) ((split-exactly r).below p) (kept_cases p m);
          distinct = list-distinct;
          exactly = omega (arith, length-append (before r) (filled r).value, niched.fills.size, split-short r split);
          none_better = λ p q m h away. no_pass (dominance r q p) (λ dom. away (Memᴰ.append_left (filled r).value (better-before p q (kept-first p m) h dom)));
          whole = λ k s p h e. Memᴰ.append_left (filled r).value
              ((before-exactly r).every p h (subst (λ (j : ℕ). in_first (dominance r) r.count j p ≡ true) (split_only r split k s) e));
          least = λ k s filling f. subst (λ (j : ℕ). sum_of_squares r (final_count r list) ≤ sum_of_squares r (filling_count r j filling)) (sym (split_only r split k s))
              (least-here filling (subst (λ (j : ℕ). Filling r j filling) (split_only r split k s) f));
          balanced = λ k s l w a b. balanced-here l w
              (subst (λ (j : ℕ). Served r j list l) (split_only r split k s) a) (subst (λ (j : ℕ). Waits r j list w) (split_only r split k s) b);
        }

  -- ---- both

  pub demand3_strict : Strict (dominance r) r.count → r.size ≤ r.count → 0 < line_count r → Demand3 r (selected r).kept
  demand3_strict strict enough some = by_bool (is_split r)
      (λ e. subst (Demand3 r) (sym (split-kept r e)) (split_demand some e))
      (λ e. subst (Demand3 r) (sym (whole-kept r strict e enough)) (whole_demand strict enough e))
