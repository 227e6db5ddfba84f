-- The whole file: its header, its marks and its plans, by how far the reader gets.
use Prim.Native.Nat.{ℕ, ◌≤◌, ◌<◌}
use mathlib.Core.Path.{◌≡◌, ap, sym, ◌∙◌}
use mathlib.Core.Bool.{Bool}
use mathlib.Core.List.{List, map}
use Rattle.std.specs.Prelude.{Option, None}
use native.Mathlib.Omega.{arith}
use borrow.Author.Tests.{le-leb, lt-leb}
use lib.ListN.{length, take, drop, length-map, drop_of_length-le}
use lib.Seq.{sets, drop-cons, take_all}
use Rattle.model.specs.Plan.{max_objectives}
use Rattle.model.specs.PoolFile.{Parsed, onward, number, many, file_by, parse_by, wholly, if_none_left, max_file}
use Rattle.list_laws.proofs.Bools.{by_option}
use Rattle.list_laws.proofs.Built.{over-front, over-all, over-take}
use Rattle.std.specs.Prelude as maybe
use Rattle.pool_file.specs.declared.Header.{Header}
use Rattle.pool_file.specs.declared.Heading.{Heading}
use Rattle.pool_plans.specs.Blocks.{Words}
use Rattle.pool_editions.specs.Editions.{plan_in, Plans}
use Rattle.pool_file.specs.Parsing.{header_of, file_of, after_header, headed, HeadingIs, begins, file_in, parse_in, PoolOf, capped}
use Rattle.pool_plans.proofs.Storing.{reads-count, stored_plain}

-- ---- the header

-- its five numbers are read as many of the same, and what follows by them
pub header-first : (second : Bool) (bytes : List ℕ) → file_by (plan_in second) bytes ≡ onward (many 5 number bytes) (λ l. after_header second (header_of l))
unfolding file_by after_header many
header-first second bytes = by_option (number bytes)
    (λ n. rw n)
    (λ a u. by_option (number a.rest)
    (λ n. rw (u, n))
    (λ b v. by_option (number b.rest)
    (λ n. rw (u, v, n))
    (λ c w. by_option (number c.rest)
    (λ n. rw (u, v, w, n))
    (λ d x. by_option (number d.rest)
    (λ n. rw (u, v, w, x, n))
    (λ e y. rw (u, v, w, x, y))))))

module _ (file : List ℕ) (at : ℕ) where
  -- what is read by way of the five numbers
  by-five : (second : Bool) (t : Option (Parsed (List ℕ))) → many 5 number (drop at file) ≡ t
      → file_by (plan_in second) (drop at file) ≡ onward t (λ k. after_header second (header_of k))
  by-five second t e =
      header-first second (drop at file) ∙ ap (λ (t : Option (Parsed (List ℕ))). onward t (λ k. after_header second (header_of k))) e

  pub header_none : many 5 number (drop at file) ≡ None → (second : Bool) → file_by (plan_in second) (drop at file) ≡ None
  header_none e second = by-five second None e

  module _ (l o : List ℕ) (next : ℕ) (five : Words (λ v. v) file at 5 5 0 l o next) (room : length l ≡ 5) where
    -- the words hold what was read
    in_words : o ≡ five.value
    in_words =
        let c = reads-count number file at _ 5 next five in
        stored_plain 5 0 l o five.value five.stored ∙ ap (sets l 0) (take_all 5 five.value (omega arith)) ∙ over-front five.value l (omega arith)
        ∙ over-all five.value l (omega arith)

    pub header-good : (second : Bool) → file_by (plan_in second) (drop at file) ≡ after_header second (header_of o) (drop next file)
    header-good second = by-five second _ five.reads ∙ ap (λ (k : List ℕ). after_header second (header_of k) (drop next file)) (sym in_words)

-- ---- marks, plans and end

pub parse-long : (second : Bool) (file : List ℕ) → max_file < length file → parse_in second file ≡ None
unfolding parse_by
parse-long second file h = rw (lt-leb (length file) max_file h)

parse-short : (second : Bool) (file : List ℕ) → length file ≤ max_file → parse_in second file ≡ wholly (file_by (plan_in second) (drop (begins second) file))
unfolding parse_by file_in
parse-short second file h = rw (le-leb (length file) max_file h)

-- the header is read, up to `at`
abbrev pub Begun : Bool → List ℕ → Header → ℕ → Type 0
Begun second file h at = parse_in second file ≡ wholly (after_header second h (drop at file))

pub parse-headed : (second : Bool) (file : List ℕ) (from : ℕ) → length file ≤ max_file → from ≡ begins second → (r : maybe.Option Heading) → HeadingIs file from r
    → parse_in second file ≡ wholly (headed second file r)
parse-headed second file from fits b r k =
    parse-short second file fits ∙ ap (λ (i : ℕ). wholly (file_by (plan_in second) (drop i file))) (sym b) ∙ ap wholly (k second)

-- the marks are read too, up to `next`
pub record Marked (second : Bool) (file : List ℕ) (h : Header) (l o : List ℕ) (next : ℕ) : Type 0 where
  pub at : ℕ
  pub begun : Begun second file h at
  pub marks : Words capped file at h.m max_objectives 0 l o next

module _ (second : Bool) (file : List ℕ) (h : Header) (at : ℕ) (b : Begun second file h at) where
  pub parse_no_marks : many h.m number (drop at file) ≡ None → parse_in second file ≡ None
  unfolding after_header
  parse_no_marks n = b ∙ rw n

  pub parse-marked : (l o : List ℕ) (next : ℕ) → Words capped file at h.m max_objectives 0 l o next → Marked second file h l o next
  parse-marked l o next w = record { at = at; begun = b; marks = w }

module _ (second : Bool) (file : List ℕ) (h : Header) (l o : List ℕ) (next : ℕ) (m : Marked second file h l o next) where
  abbrev values : List ℕ
  values = m.marks.value

  pub parse-no_plans : many h.count (plan_in second h.m) (drop next file) ≡ None → parse_in second file ≡ None
  unfolding after_header
  parse-no_plans n = m.begun ∙ rw (m.marks.reads, n)

  module _ (pool : List ℕ) (stop : ℕ) (plans : Plans second file next h.m h.count pool stop) where
    whole : parse_in second file ≡ if_none_left (drop stop file) (file_of h values plans.value)
    unfolding after_header
    whole = m.begun ∙ rw (m.marks.reads, plans.reads)

    pub parse_runs_on : stop < length file → parse_in second file ≡ None
    parse_runs_on u = whole ∙ ap (λ (t : List ℕ). if_none_left t (file_of h values plans.value)) (drop-cons file stop 0 u)

    counted : length values ≡ h.m
    counted = reads-count number file m.at _ h.m next m.marks

    shown : 8 ≤ length l → h.m ≤ 8 → take h.m o ≡ map capped values
    shown room u =
        let a : take 8 values ≡ values = take_all 8 values (omega (arith, counted)) in
        let s : length (map capped values) ≡ h.m = length-map values capped ∙ counted in
        ap (take h.m) (m.marks.stored ∙ ap (λ (t : List ℕ). sets l 0 (map capped t)) a ∙ over-front (map capped values) l (omega arith))
        ∙ over-take (map capped values) l h.m s

    pub parse-good : 8 ≤ length l → length file ≤ stop → PoolOf (parse_in second file) h o pool
    parse-good room u = record {
      values = values;
      read = plans.value;
      parsed = whole ∙ ap (λ (t : List ℕ). if_none_left t (file_of h values plans.value)) (drop_of_length-le file u);
      marks = shown room;
      plans = plans.stored;
    }
