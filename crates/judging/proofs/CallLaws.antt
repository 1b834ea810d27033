-- From a job whose sets work holds to the sides, and from the call to its answer. Assumes nothing.
use mathlib.Core.Path.{◌≡◌, refl, sym, ap, ◌∙◌}
use mathlib.Core.Bool.{Bool, true, false, not}
use mathlib.Core.List.{List}
use mathlib.Core.Option.{Option, none, some}
use Prim.Native.Nat.{ℕ, ◌+◌, ◌*◌, ◌≤◌, ◌<◌}
use native.Mathlib.Nat.{le_refl, mul_comm, mul_left_comm, add-mul}
use native.Mathlib.Omega.{arith}
use lib.ListN.{length, get_or, replicate}
use borrow.Author.Tests.{ne_eqb, not-true, not-false}
use Rattle.laws.proofs.Cases.{true-false}
use Rattle.laws.proofs.EveryLaws.{all-get_or}
use Rattle.laws.proofs.Products.{product, row_fits}
use Rattle.laws.proofs.RangeLaws.{get_or-seg}
use Rattle.sets.proofs.HeldLaws.{Kept, kept-only, kept_trans, held_kept, sets_same}
use Rattle.said.specs.Records.{record_count, region_length}
use Rattle.said.specs.Job.{Said, Outcome, in_axes, records_from, outcome_from}
use Rattle.said.proofs.SaidLaws.{Counts, counts}
use Rattle.std.specs.Prelude.{Ok, Err}
use Rattle.refusals.specs.declared.Refusal.{Refusal}
use Rattle.refusals.specs.declared.Refused as refusals
use Rattle.refusals.specs.Refusals.{number}
use Rattle.refusals.proofs.Numbers.{some_number}
use Rattle.job.specs.declared.whole.JobCounts.{JobCounts}
use Rattle.job.specs.Lent.{JobRead}
use Rattle.job.proofs.CheckLaws.{early-first, none-early}
use Rattle.reader.specs.Store.{axis_count, region_count, list_at}
use Rattle.stores.specs.Stores.{Parsed, store_at, parse, parses}
use Rattle.stores.proofs.PartLaws.{be-two}
use Rattle.stores.proofs.Reading.{list-parsed}
use Rattle.stores.proofs.WholeLaws.{parse-done}
use Rattle.matching.specs.declared.Sides.{Sides}
use Rattle.matching.specs.Lent.{side_at, FirstSide, SidesFit, Matched}
use Rattle.matching.proofs.SideLaws.{side_same}
use Rattle.giving.proofs.WordLaws.{whole_of, head_of}
use Rattle.judging.specs.Answers.{Judged}
use Rattle.judging.specs.Answers.{Refused, WrongStore}
use Rattle.judging.specs.Judge.{judged_in, judged_of, judge_refusal, judge_of, judge_left}
use Rattle.judging.specs.LentJudge.{JudgeOpen, Looked, JudgeFit, Sided}

-- ---- the store by itself

pub not-parsed : (axes : ℕ) (words : List ℕ) (s : Said) (store : List ℕ) (ok : Bool) → ok ≡ parses (parse store) → not ok ≡ true → WrongStore ≡ judged_in axes words s (parse store)
unfolding judged_in parses
not-parsed axes words s store ok e h = go (parse store) (sym e ∙ not-true ok h)
  where
    go : (o : Option Parsed) → parses o ≡ false → WrongStore ≡ judged_in axes words s o
    go none z = refl
    go (some p) z = absurd (true-false refl z)

pub is-parsed : (store : List ℕ) (ok : Bool) → ok ≡ parses (parse store) → not ok ≡ false → parses (parse store) ≡ true
is-parsed store ok e h = sym e ∙ not-false ok h

module _ (store : List ℕ) (h : parses (parse store) ≡ true) where
  pub other-axes : (axes : ℕ) (words : List ℕ) (s : Said) (n : ℕ) → n ≡ axis_count store → (n ≡ axes → ⊥) → WrongStore ≡ judged_in axes words s (parse store)
  unfolding judged_in
  other-axes axes words s n e d =
      let p = parse-done store (whole_of store h) in
      rw (p, ne_eqb (store_at store).axes axes (λ z. d (e ∙ (list-parsed store (store_at store) p).axes-are ∙ z)))

-- ---- the sides

module _ {axes records sets uses : ℕ} {job store w : List ℕ} (f : JudgeFit axes job records sets uses (length store) w) (bytes : (k : ℕ) → get_or store k 0 < 256)
    (new : List ℕ) (ok : Bool) (k : Looked store (5 * records) w new ok) (h : parses (parse store) ≡ true)
    (list : ℕ) (list-is : list ≡ list_at store) (axis : ℕ) (axis-is : axis ≡ axis_count store) (axes-is : axis ≡ axes) (listed : ℕ) (listed-is : listed ≡ region_count store) where
  abbrev pub sides : Sides
  sides = record { axes = axes; list = list + 4; listed = listed; used = 4 * records; uses = uses; index = 5 * records }

  abbrev s : Said
  s = f.held.said

  all : Counts axes job records f.held.said
  all = counts axes 0 job records f.held.said f.some f.bytes f.held.is

  -- how much the regions take

  list-long : listed * (6 * axes) + (list + 4) ≤ length store
  list-long =
      let e : axes ≡ axis_count store = sym axes-is ∙ axis-is in
      let g : region_count store * (6 * axis_count store) ≡ 6 * axis_count store * region_count store = mul_comm (region_count store) (6 * axis_count store) in
      rw (listed-is, e, list-is) (omega (arith, (head_of store h).regions, g))

  listed-low : listed < 65536
  listed-low = rw listed-is (be-two store bytes (list_at store + 2))

  listed-words : 5 * listed ≤ length store
  listed-words =
      let a : listed * 6 ≤ listed * (6 * axes) = product listed (6 * axes) (le_refl listed) (omega (arith, f.some)) in
      omega (arith, list-long)

  listed-most : listed * (6 * axes) ≤ 25165440
  listed-most = product 65535 384 (omega (arith, listed-low)) (omega (arith, f.most))

  uses-axes : uses * axes ≤ records
  uses-axes =
      let a : uses * axes ≤ length f.held.said.regions * axes = product (length f.held.said.regions) axes (omega (arith, all.used-few, f.held.uses-are)) (le_refl axes) in
      omega (arith, all.records-are)

  uses-words : 5 * uses + uses * (6 * axes) ≤ 11 * records
  uses-words =
      let a : uses * 1 ≤ uses * axes = product uses axes (le_refl uses) f.some in
      let b : uses * (6 * axes) ≡ 6 * (uses * axes) = mul_left_comm uses 6 axes in
      omega (arith, uses-axes)

  split : (listed + uses) * (6 * axes) ≡ listed * (6 * axes) + uses * (6 * axes)
  split = add-mul listed uses (6 * axes)

  low-kept : (i : ℕ) → i < 5 * records → get_or new i 0 ≡ get_or w i 0
  low-kept i l = k.only.kept i (record { apart = λ z. absurd (omega arith) }, tt)

  uses-few : uses ≤ records
  uses-few = let a : uses * 1 ≤ uses * axes = product uses axes (le_refl uses) f.some in omega (arith, uses-axes)

  used-said : (u : ℕ) → u < uses → get_or new (4 * records + u) 0 ≡ get_or f.held.said.used u 0
  used-said u l =
      low-kept (4 * records + u) (omega (arith, uses-few))
      ∙ sym (get_or-seg (4 * records) uses w u l) ∙ ap (λ (x : List ℕ). get_or x u 0) f.held.used-are

  used-long : (u : ℕ) → u < uses → get_or new (4 * records + u) 0 * region_length axes + region_length axes ≤ length job
  used-long u l =
      let q = get_or f.held.said.used u 0 in
      let low : q < length f.held.said.regions =
      all-get_or (λ x. x < length f.held.said.regions) f.held.said.used u 0 all.used_low (omega (arith, f.held.uses-are)) in
      let a = row_fits (region_length axes) (length f.held.said.regions) q low in
      let b : length f.held.said.regions * region_length axes ≡ 12 * (length f.held.said.regions * axes) = mul_left_comm (length f.held.said.regions) 12 axes in
      rw (used-said u l) (omega (arith, all.records-are, f.whole))

  pub sides-fit : SidesFit store job sides new
  sides-fit = record {
    some = f.some;
    most = f.most;
    list-in = omega (arith, list-long);
    listed-few = listed-low;
    uses-few = omega (arith, uses-few, f.few);
    used-in = used-long;
    used-to = omega (arith, uses-few);
    room = omega (arith, split, listed-words, list-long, uses-words, f.room, k.only.long);
    few = omega (arith, split, listed-low, listed-most, uses-words, f.few);
  }

  -- ---- what finding the first like each leaves

  module _ (last : List ℕ) (m : Matched store job sides new last) where
    kept-last : Kept (4 * records + uses) new last
    kept-last = kept-only m.only (omega (arith, uses-few), tt)

    used-same : (u : ℕ) → u < uses → get_or last (4 * records + u) 0 ≡ get_or new (4 * records + u) 0
    used-same u l = kept-last.below (4 * records + u) (omega arith)

    side-moved : (x : ℕ) → x < listed + uses → side_at store job last sides x ≡ side_at store job new sides x
    side-moved x l = side_same store job last new sides x l used-same

    first-moved : (x y : ℕ) → x < listed + uses → FirstSide store job new sides x y → FirstSide store job last sides x y
    first-moved x y l g = record {
      not-past = g.not-past;
      same = side-moved y (omega (arith, g.not-past)) ∙ g.same ∙ sym (side-moved x l);
      least = λ j b e. g.least j b (sym (side-moved j b) ∙ e ∙ side-moved x l);
    }

    kept-all : Kept (4 * records) w last
    kept-all = kept_trans (kept-only k.only (omega arith, tt)) (kept-only m.only (omega arith, tt))

    abbrev sided_here : Sided store job sets last sides
    sided_here = record {
      said = f.held.said;
      records = records;
      bytes = f.bytes;
      is = f.held.is;
      parsed = h;
      axes-are = sym axes-is ∙ axis-is;
      listed-are = listed-is;
      list-is = ap (λ (x : ℕ). x + 4) list-is;
      uses-are = sym f.held.uses-are;
      fits = record {
        some = f.some;
        most = f.most;
        list-in = sides-fit.list-in;
        listed-few = listed-low;
        uses-few = sides-fit.uses-few;
        used-in = λ u l. rw (used-same u l) (used-long u l);
        used-to = sides-fit.used-to;
        room = rw m.only.long sides-fit.room;
        few = sides-fit.few;
      };
      room = rw m.only.long (omega (arith, split, listed-words, list-long, uses-words, f.room, k.only.long));
      used-are = λ u l. used-same u l ∙ used-said u l;
      held = held_kept f.held.held kept-all;
      sets-are = sets_same f.held.held kept-all ∙ f.held.sets-are;
      firsts = λ x l. first-moved x _ l (m.firsts x l);
    }

    pub sided : Sided store job sets last sides
    sided = sided_here

    pub by-store-done : (words : List ℕ) (r : Judged) → ((g : Sided store job sets last sides) → r ≡ judged_in axes words g.said (parse store)) → r ≡ judged_in axes words f.held.said (parse store)
    by-store-done words r p = p sided_here

-- ---- the records, and the call

module _ (axes : ℕ) (job store words w : List ℕ) where
  module _ (x : Refusal) (e : number x ≡ judge_refusal axes job (length store) (length w)) where
    pub refused-first : Refused (number x) 0 ≡ judge_of axes job store words (length w)
    unfolding judge_of judged_of
    refused-first =
        let o : Outcome = records_from axes 0 job job (record_count job) 0 in_axes in
        sym (ap (judged_of axes store words) (ap (λ (k : ℕ). outcome_from k o) (sym e) ∙ early-first (number x) o (some_number x)))

    pub left-first : w ≡ judge_left axes job (length store) w
    unfolding judge_left
    left-first = rw (← e, ne_eqb (number x) 0 (some_number x)) refl

  module _ (e : 0 ≡ judge_refusal axes job (length store) (length w)) where
    pub left-zeros : (w' : List ℕ) → w' ≡ replicate (length w) 0 → w' ≡ judge_left axes job (length store) w
    unfolding judge_left
    left-zeros w' c = c ∙ rw (← e) refl

    pub walked : (p : Judged) → p ≡ judged_of axes store words (records_from axes 0 job job (record_count job) 0 in_axes) → p ≡ judge_of axes job store words (length w)
    unfolding judge_of
    walked p h = h ∙ sym (ap (judged_of axes store words) (none-early _ _ (sym e)))

  module _ {records : ℕ} (r : records ≡ record_count job) where
    walk_is : records_from axes 0 job job records 0 in_axes ≡ records_from axes 0 job job (record_count job) 0 in_axes
    walk_is = rw r refl

    pub refused-record : {new : List ℕ} (z : refusals.Refused) → JobRead axes 0 job records w new (Err z)
        → Refused (number z.refusal) z.place ≡ judged_of axes store words (records_from axes 0 job job (record_count job) 0 in_axes)
    unfolding judged_of
    refused-record z read = sym (ap (judged_of axes store words) (sym walk_is ∙ read.is))

    module _ (bytes : (k : ℕ) → get_or job k 0 < 256) (o : JudgeOpen axes job (length store) (length w)) {new : List ℕ} (c : JobCounts) (read : JobRead axes 0 job records w new (Ok c)) where
      abbrev pub stands : JudgeFit axes job records c.sets c.uses (length store) new
      stands = record {
        some = o.passed.some;
        most = o.passed.most;
        few = omega (arith, r, o.passed.few);
        bytes = bytes;
        whole = omega (arith, r, o.passed.whole);
        room = omega (arith, r, o.room, read.only.long);
        regions = c.regions;
        values = c.values;
        held = read.is;
      }

      pub answered : (p : Judged) → ((f : JudgeFit axes job records c.sets c.uses (length store) new) → p ≡ judged_in axes words f.held.said (parse store))
          → p ≡ judged_of axes store words (records_from axes 0 job job (record_count job) 0 in_axes)
      unfolding judged_of
      answered p h = h stands ∙ sym (ap (judged_of axes store words) (sym walk_is ∙ read.is.is))
