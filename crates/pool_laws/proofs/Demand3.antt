-- DEMAND 3 as `choose` promises it: the plans of a pool file in good form have as many values as there are objectives.
use Prim.Native.Nat.{ℕ, ◌≤◌}
use mathlib.Core.Path.{◌≡◌, sym, subst, ◌∙◌}
use mathlib.Core.List.{List}
use Rattle.std.specs.Prelude.{Option, None, Some}
use native.Mathlib.Omega.{arith}
use Rattle.model.specs.Kept.{Selected, selected}
use Rattle.model.specs.PoolFile.{PoolFile, parse, file_request, listing_text, file_text}
use Rattle.model.specs.Refusal.{select_refusal, file_refusal, form_refusal, refusal_of_parsed, choose_refusal}
use Rattle.model.specs.Demand3.{Demand3}
use Rattle.model.specs.Calls.{Listable, Tells}
use Rattle.demand3_laws.proofs.Passed.{select_passed}
use Rattle.demand3_laws.specs.Facts.{Accepted}
use Rattle.demand3_laws.proofs.Accepted.{demand3}
use Rattle.nsga3_laws.proofs.Admitted.{admitted}
use Rattle.pool_laws.specs.Choice.{roomy}
use Rattle.pool_laws.proofs.Shapes.{Whole, parse-whole}
use Rattle.pool_laws.proofs.Printed.{selected_listable}
use Rattle.pool_laws.proofs.Refusals.{file_selects}
use Rattle.pool_laws.proofs.FromText.{text_tells, same-list}

pub file_accepted : (f : PoolFile) → Whole f → select_refusal (file_request f) roomy ≡ None → Accepted (file_request f)
file_accepted f whole e =
    let q = select_passed (file_request f) roomy e in
    record {
      directions = q.directions;
      divisions = q.divisions;
      pool = q.pool;
      rows = λ p l. omega (arith, whole.marks, (whole.plans p l).row);
    }

-- a file in good form is refused as its bytes are
pub file_passes : (bytes : List ℕ) (out : ℕ) → choose_refusal bytes out ≡ None → (f : PoolFile) → parse bytes ≡ Some f → file_refusal f out ≡ None
unfolding choose_refusal
file_passes bytes out e f read = subst (λ (o : Option PoolFile). refusal_of_parsed (form_refusal bytes) o out ≡ None) read e

pub choose_demand3 : (bytes : List ℕ) (out : ℕ) → choose_refusal bytes out ≡ None → (f : PoolFile) → parse bytes ≡ Some f → f.size ≤ f.count
    → Demand3 (file_request f) (selected (file_request f)).kept
choose_demand3 bytes out e f read enough =
    demand3 (file_request f) (file_accepted f (parse-whole bytes f read) (file_selects f out (file_passes bytes out e f read))) enough

-- ---- the list that is printed

-- what a file selects is told by its listing
file_listable : (f : PoolFile) (out : ℕ) → file_refusal f out ≡ None → Listable f.count (selected (file_request f))
file_listable f out e =
    let a = admitted (file_request f) roomy (file_selects f out e) in
    selected_listable (file_request f) a.few a.of_edition a.some_lines a.few_lines

-- THE TEXT DETERMINES THE LIST: whatever selection has the listing that is printed for a file has the file's kept list
pub text-kept : (f : PoolFile) (out : ℕ) → Whole f → file_refusal f out ≡ None → f.size ≤ f.count
    → (n : ℕ) (s : Selected) → Listable n s → listing_text n s ≡ file_text f → s.kept ≡ (selected (file_request f)).kept
text-kept f out whole e enough n s small t =
    let d = demand3 (file_request f) (file_accepted f whole (file_selects f out e)) enough in
    let told = text_tells f.count n (selected (file_request f)) s (file_listable f out e) small (sym t) in
    sym (same-list f.count (selected (file_request f)).kept s.kept d.distinct d.in_pool told.size (λ p h. (told.plans p h).place))

-- so two files with one text have one kept list
pub one_list : (f g : PoolFile) (out room : ℕ) → Whole f → file_refusal f out ≡ None → file_refusal g room ≡ None → f.size ≤ f.count → file_text g ≡ file_text f
    → (selected (file_request g)).kept ≡ (selected (file_request f)).kept
one_list f g out room whole e h enough t = text-kept f out whole e enough g.count (selected (file_request g)) (file_listable g room h) t

-- and demand 3 holds of the list that is printed
pub printed-demand3 : (bytes : List ℕ) (out : ℕ) → choose_refusal bytes out ≡ None → (f : PoolFile) → parse bytes ≡ Some f → f.size ≤ f.count
    → (n : ℕ) (s : Selected) → Listable n s → listing_text n s ≡ file_text f → Demand3 (file_request f) s.kept
printed-demand3 bytes out e f read enough n s small t =
    subst (λ (l : List ℕ). Demand3 (file_request f) l)
    (sym (text-kept f out (parse-whole bytes f read) (file_passes bytes out e f read) enough n s small t))
    (choose_demand3 bytes out e f read enough)

-- which is what a text tells that is the file's listing
pub file_tells : (bytes : List ℕ) (out : ℕ) → choose_refusal bytes out ≡ None → (f : PoolFile) → parse bytes ≡ Some f → f.size ≤ f.count
    → (text : List ℕ) → text ≡ file_text f → Tells f text
file_tells bytes out e f read enough text t = record {
  listing = t;
  some = file_listable f out (file_passes bytes out e f read);
  every = λ n s small u. printed-demand3 bytes out e f read enough n s small (u ∙ t);
}
