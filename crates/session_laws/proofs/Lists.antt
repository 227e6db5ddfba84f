-- What the lent slices have to hold where no plan has come, where nobody waits, and where nothing is remembered.
use Prim.Native.Nat.{ℕ, ◌+◌, ◌*◌}
use mathlib.Core.Path.{◌≡◌, sym, ap, subst}
use mathlib.Core.Bool.{true}
use mathlib.Core.List.{List, Nodup-nil}
use native.Mathlib.Nat.{not-suc-le-zero, zero-mul}
use native.Mathlib.Omega.{arith}
use mathlib.Core.Path.{◌∙◌}
use lib.ListN.{take, get_or}
use Rattle.list_laws.proofs.Tests.{all_below_none, all_in-every}
use Rattle.list_laws.proofs.Built.{list_below_none, list_below-length}
use Rattle.model.specs.Lists.{Distinct, all_below, all_in}
use Rattle.model.specs.Real.{real}
use Rattle.model.specs.declared.Session.{Session}
use Rattle.model.specs.Setting.{WordsWithin}
use Rattle.model.specs.Session.{State, dimension_of, waiting_count, numbers_of, memory_at, memory_in}
use Rattle.model.specs.Refusal.{good_entry}
use Rattle.model.specs.Property.{WaitingOk, LentOk}

pub waiting_none : (st : State) → waiting_count st ≡ 0 → WaitingOk st
waiting_none st e = record {
  different = subst Distinct (sym (ap (numbers_of st.pool) e ∙ list_below_none _)) Nodup-nil;
  measured = ap (all_below _) e ∙ all_below_none _;
  breedable = ap (all_below _) e ∙ all_below_none _;
}

-- the words remembered pass the ideal's test of 8
abbrev pub MemoryGood : Session → List ℕ → Type 0
MemoryGood s pool = all_in (λ w. good_entry (real w)) (memory_in s pool) ≡ true

pub memory_none : (s : Session) (pool : List ℕ) → s.progress.n_remembered ≡ 0 → MemoryGood s pool
memory_none s pool e =
    let none : s.progress.n_remembered * s.config.n_obj ≡ 0 = ap (λ (k : ℕ). k * s.config.n_obj) e ∙ zero-mul s.config.n_obj in
    let size = list_below-length (λ i. get_or pool (memory_at s.config + i) 0) (s.progress.n_remembered * s.config.n_obj) in
    all_in-every _ 0 (memory_in s pool) (λ k h. absurd (omega (arith, size, none, h)))

pub lent_none : (st : State) → st.session.progress.n_plans ≡ 0
    → WordsWithin (dimension_of st.session) st.session.progress.n_dims st.session.progress.n_candidates st.candidates → WaitingOk st → MemoryGood st.session st.pool
    → LentOk st
lent_none st e settings waiting remembered = record {
  different = subst Distinct (sym (ap (λ n. take n st.plans) e)) Nodup-nil;
  next = λ i l. absurd (not-suc-le-zero (rw e at l));
  settings = settings;
  waiting = waiting;
  remembered = remembered;
}

-- nor a candidate
pub lent_empty : (st : State) → st.session.progress.n_plans ≡ 0 → st.session.progress.n_candidates ≡ 0 → waiting_count st ≡ 0
    → st.session.progress.n_remembered ≡ 0 → LentOk st
lent_empty st e f g h = lent_none st e (λ i d l k. absurd (not-suc-le-zero (rw f at l))) (waiting_none st g) (memory_none st.session st.pool h)
