-- From an answer to the job's bytes, through what a taken job says (`told`). Assumes nothing.
use mathlib.Core.Path.{◌≡◌, refl, sym, ap, ap₂, ◌∙◌}
use mathlib.Core.Bool.{true, ◌&&◌}
use mathlib.Core.List.{List, []}
use mathlib.Core.Logic.{◌⊎◌, inl, inr}
use Prim.Native.Nat.{ℕ, ◌<◌}
use native.Mathlib.Omega.{arith}
use lib.Dec.{ltb}
use lib.ListN.{length, get_or}
use lib.Signed.{lt_z}
use borrow.Author.Tests.{lt-ltb, ltb-true}
use Rattle.laws.specs.Signed.{value}
use Rattle.laws.proofs.Cases.{Which, which, and-true, true-false}
use Rattle.laws.proofs.Cases.Which.{holds, fails}
use Rattle.laws.proofs.EveryLaws.{all-get_or}
use Rattle.sets.specs.declared.Parting.{Parting}
use Rattle.sets.specs.declared.Parting.TheVariants as parts
use Rattle.sets.specs.Set.{Set, word_of, Ascending, Proper}
use Rattle.sets.specs.Order.{DifferAt, parting}
use Rattle.sets.proofs.SetLaws.{parting-right}
use Rattle.sets.proofs.PartLaws.{told-smaller, told-larger, signed-less, equal-all, differ-below}
use Rattle.said.specs.Records.{kind, value_kind, region_number, record_at, record_count}
use Rattle.said.specs.Refusals.{pair_records, no_set}
use Rattle.said.specs.Sets.{first_like, index_in}
use Rattle.said.specs.Job.{Said, Outcome, refused, fine, outcome}
use Rattle.said.proofs.IndexLaws.{index_at}
use Rattle.said.proofs.SoundLaws.{fine-walk}
use Rattle.told.specs.Told.{index_of, Told}
use Rattle.told.proofs.TellLaws.{Telling, all_told}
use Rattle.told.proofs.Bytes.{told}
use Rattle.parting.specs.Answers.{Parted}
use Rattle.parting.specs.Answers.{Refused, Equal, Smaller, Larger}
use Rattle.parting.specs.Part.{user_of, named, parted_in, parted_of, part_of}
use Rattle.parting.specs.PartTold.{WordAt, BothSets, PartTold}
use Rattle.parting.proofs.NamedLaws.{named-first}

-- ---- of a job that is taken

module _ (axes : ℕ) (job : List ℕ) (work : ℕ) (s : Said) (e : outcome axes 0 job work pair_records ≡ fine s) where
  pub job-told : Told axes job s
  job-told = told axes 0 job work pair_records s e

  telling : Telling axes job (record_count job) s
  telling = (all_told axes 0 job (record_count job) s (fine-walk axes 0 job work pair_records s e).1).0

  abbrev like_of : ℕ → ℕ
  like_of i = first_like s.regions (region_number (record_at job i))

  -- the region in use at a value record's index is the first like its region
  like_is : (i : ℕ) → i < record_count job → kind (record_at job i) ≡ value_kind → like_of i ≡ get_or s.used (index_of s (region_number (record_at job i))) 0
  like_is i h k = sym (index_at (like_of i) s.used (telling.in_use i h k))

  -- THE LAW: the region told is the one that the record of first use names
  pub user-is : (r : ℕ) → (h : r < length s.used) → user_of job s r ≡ region_number (record_at job (job-told.first-use r h).place)
  unfolding user_of
  user-is r h =
      let u = job-told.first-use r h in
      let here : like_of u.place ≡ get_or s.used r 0 = like_is u.place u.within u.is-value ∙ ap (λ (k : ℕ). get_or s.used k 0) u.index_is in
      named-first s.regions (get_or s.used r 0) job (record_count job) u.place u.within u.is-value here
      (λ j l k f. let same : like_of j ≡ like_of u.place = f ∙ sym here in omega (arith, u.earlier j l k, ap (λ (q : ℕ). index_in q s.used) same, u.index_is))

  rising : (x : ℕ) → x < length s.sets → Ascending 0 (get_or s.sets x [])
  rising x h = all-get_or (Ascending 0) s.sets x [] telling.good.sets-rising h

  proper : (x : ℕ) → x < length s.sets → Proper (length s.used) (get_or s.sets x [])
  proper x h = all-get_or (Proper (length s.used)) s.sets x [] telling.good.sets-proper h

  word_at : (n r v : ℕ) → n < length s.sets → r < length s.used → v ≡ word_of (get_or s.sets n []) r → WordAt axes job s n r v
  word_at n r v h l d = record {
    word-is = d;
    given = λ i m f. d ∙ ap (word_of (get_or s.sets n [])) (sym f) ∙ (job-told.given n i m).word-is;
    unnamed = λ m. d ∙ job-told.unnamed n r h l m;
  }

  module _ (x y : ℕ) (p : x < length s.sets) (q : y < length s.sets) where
    abbrev a : Set
    a = get_or s.sets x []

    abbrev b : Set
    b = get_or s.sets y []

    both : BothSets job x y
    both = record { first-in = omega (arith, job-told.sets-are); second-in = omega (arith, job-told.sets-are) }

    part-told : (r k v u : ℕ) → DifferAt 0 (word_of a) (word_of b) r v u → (v ≡ u → ⊥) → user_of job s r ≡ k → PartTold axes job s x y r k v u
    part-told r k v u d n f =
        let l : r < length s.used = differ-below (length s.used) a b r v u (proper x p) (proper y q) d n in
        record {
          sets-in = both;
          agree = λ j m. d.agree j (omega arith) m;
          left = word_at x r v p l d.left;
          right = word_at y r u q l d.right;
          first-use = job-told.first-use r l;
          region-is = sym f ∙ user-is r l;
        }

-- ---- an answer taken apart

module _ (job : List ℕ) (s : Said) where
  back-equal : (o : Parting) → named job s o ≡ Equal → o ≡ parts.Equal
  unfolding named
  back-equal parts.Equal e = refl
  back-equal (parts.Smaller r v u) e = let z : ◌≡◌ {A = ℕ} 0 1 = cc in absurd (omega arith)
  back-equal (parts.Larger r v u) e = let z : ◌≡◌ {A = ℕ} 0 1 = cc in absurd (omega arith)

  module _ (r k v u : ℕ) where
    back-less : (o : Parting) → named job s o ≡ Smaller r k v u → (o ≡ parts.Smaller r v u) × (user_of job s r ≡ k)
    unfolding named
    back-less parts.Equal e = let z : ◌≡◌ {A = ℕ} 0 1 = cc in absurd (omega arith)
    back-less (parts.Smaller r' v' u') e =
        let f : r' ≡ r = cc in let g : v' ≡ v = cc in let h : u' ≡ u = cc in let i : user_of job s r' ≡ k = cc in
        ((λ j. parts.Smaller (f j) (g j) (h j)), ap (user_of job s) (sym f) ∙ i)
    back-less (parts.Larger r' v' u') e = let z : ◌≡◌ {A = ℕ} 0 1 = cc in absurd (omega arith)

    back_more : (o : Parting) → named job s o ≡ Larger r k v u → (o ≡ parts.Larger r v u) × (user_of job s r ≡ k)
    unfolding named
    back_more parts.Equal e = let z : ◌≡◌ {A = ℕ} 0 1 = cc in absurd (omega arith)
    back_more (parts.Smaller r' v' u') e = let z : ◌≡◌ {A = ℕ} 0 1 = cc in absurd (omega arith)
    back_more (parts.Larger r' v' u') e =
        let f : r' ≡ r = cc in let g : v' ≡ v = cc in let h : u' ≡ u = cc in let i : user_of job s r' ≡ k = cc in
        ((λ j. parts.Larger (f j) (g j) (h j)), ap (user_of job s) (sym f) ∙ i)

  back-refused : (n i : ℕ) (o : Parting) → named job s o ≡ Refused n i → ⊥
  unfolding named
  back-refused n i parts.Equal e = let z : ◌≡◌ {A = ℕ} 0 1 = cc in omega arith
  back-refused n i (parts.Smaller r v u) e = let z : ◌≡◌ {A = ℕ} 0 1 = cc in omega arith
  back-refused n i (parts.Larger r v u) e = let z : ◌≡◌ {A = ℕ} 0 1 = cc in omega arith

-- an answer that is no refusal: the job says s, has both sets, and they are compared
record Taken (axes : ℕ) (job : List ℕ) (x y work : ℕ) (p : Parted) : Type 0 where
  said : Said
  is : outcome axes 0 job work pair_records ≡ fine said
  first-in : x < length said.sets
  second-in : y < length said.sets
  answer : named job said (parting (get_or said.sets x []) (get_or said.sets y [])) ≡ p

module _ (axes : ℕ) (job : List ℕ) (x y work : ℕ) (p : Parted) (other : (n i : ℕ) → Refused n i ≡ p → ⊥) where
  sets-taken : (s : Said) → outcome axes 0 job work pair_records ≡ fine s → parted_in job x y s ≡ p → Taken axes job x y work p
  unfolding parted_in
  sets-taken s f k = at (which (ltb x (length s.sets) && ltb y (length s.sets)))
    where
      at : Which (ltb x (length s.sets) && ltb y (length s.sets)) → Taken axes job x y work p
      at (fails h) = absurd (other no_set 0 (rw h at k))
      at (holds h) =
          let t = and-true (ltb x (length s.sets)) (ltb y (length s.sets)) h in
          record { said = s; is = f; first-in = ltb-true x (length s.sets) t.0; second-in = ltb-true y (length s.sets) t.1; answer = rw h at k }

  taken : part_of axes job x y work ≡ p → Taken axes job x y work p
  unfolding parted_of
  taken e = go (outcome axes 0 job work pair_records) refl e
    where
      go : (o : Outcome) → outcome axes 0 job work pair_records ≡ o → parted_of job x y o ≡ p → Taken axes job x y work p
      go (refused n i) f g = absurd (other n i g)
      go (fine s) f g = sets-taken s f g

-- ---- THE THEOREMS: what a call says of the job's bytes

module _ (axes : ℕ) (job : List ℕ) (x y work : ℕ) where
  pub smaller-told : (r k v u : ℕ) → part_of axes job x y work ≡ Smaller r k v u
      → (s : Said) × (outcome axes 0 job work pair_records ≡ fine s) × PartTold axes job s x y r k v u × (lt_z (value v) (value u) ≡ true)
  smaller-told r k v u e =
      let t = taken axes job x y work (Smaller r k v u) (λ n i f. let z : ◌≡◌ {A = ℕ} 0 1 = cc in omega arith) e in
      let c = back-less job t.said r k v u _ t.answer in
      let d = told-smaller (parting-right _ _ 0 (rising axes job work t.said t.is x t.first-in) (rising axes job work t.said t.is y t.second-in)) r v u c.0 in
      (t.said, t.is, part-told axes job work t.said t.is x y t.first-in t.second-in r k v u d.0 (λ f. omega (arith, d.1)) c.1, signed-less v u d.1)

  pub larger-told : (r k v u : ℕ) → part_of axes job x y work ≡ Larger r k v u
      → (s : Said) × (outcome axes 0 job work pair_records ≡ fine s) × PartTold axes job s x y r k v u × (lt_z (value u) (value v) ≡ true)
  larger-told r k v u e =
      let t = taken axes job x y work (Larger r k v u) (λ n i f. let z : ◌≡◌ {A = ℕ} 0 1 = cc in omega arith) e in
      let c = back_more job t.said r k v u _ t.answer in
      let d = told-larger (parting-right _ _ 0 (rising axes job work t.said t.is x t.first-in) (rising axes job work t.said t.is y t.second-in)) r v u c.0 in
      (t.said, t.is, part-told axes job work t.said t.is x y t.first-in t.second-in r k v u d.0 (λ f. omega (arith, d.1)) c.1, signed-less u v d.1)

  pub equal-told : part_of axes job x y work ≡ Equal
      → (s : Said) × (outcome axes 0 job work pair_records ≡ fine s) × BothSets job x y × ((k : ℕ) → word_of (get_or s.sets x []) k ≡ word_of (get_or s.sets y []) k)
  equal-told e =
      let t = taken axes job x y work Equal (λ n i f. let z : ◌≡◌ {A = ℕ} 0 1 = cc in omega arith) e in
      let c = back-equal job t.said _ t.answer in (
        t.said,
        t.is,
        both axes job work t.said t.is x y t.first-in t.second-in,
        equal-all _ _ (rising axes job work t.said t.is x t.first-in) (rising axes job work t.said t.is y t.second-in) c,
      )

  no-sets : (s : Said) → outcome axes 0 job work pair_records ≡ fine s → (n i : ℕ) → parted_in job x y s ≡ Refused n i
      → (n ≡ no_set) × (i ≡ 0) × (BothSets job x y → ⊥)
  unfolding parted_in
  no-sets s f n i k = at (which (ltb x (length s.sets) && ltb y (length s.sets)))
    where
      both_below : x < length s.sets → y < length s.sets → (ltb x (length s.sets) && ltb y (length s.sets)) ≡ true
      both_below p q = rw (lt-ltb x (length s.sets) p, lt-ltb y (length s.sets) q) refl

      at : Which (ltb x (length s.sets) && ltb y (length s.sets)) → (n ≡ no_set) × (i ≡ 0) × (BothSets job x y → ⊥)
      at (holds h) = absurd (back-refused job s n i _ (rw h at k))
      at (fails h) =
          let g = rw h at k in
          let a : n ≡ no_set = cc in
          let b : i ≡ 0 = cc in
          let long = (job-told axes job work s f).sets-are in
          (a, b, λ c. true-false (both_below (omega (arith, c.first-in)) (omega (arith, c.second-in))) h)

  -- a refusal is the job's own, or (R64) the job is sound and does not have both sets
  pub refused-told : (n i : ℕ) → part_of axes job x y work ≡ Refused n i
      → (outcome axes 0 job work pair_records ≡ refused n i)
      ⊎ ((s : Said) × (outcome axes 0 job work pair_records ≡ fine s) × (n ≡ no_set) × (i ≡ 0) × (BothSets job x y → ⊥))
  unfolding parted_of
  refused-told n i e = go (outcome axes 0 job work pair_records) refl e
    where
      go : (o : Outcome) → outcome axes 0 job work pair_records ≡ o → parted_of job x y o ≡ Refused n i
          → (outcome axes 0 job work pair_records ≡ refused n i)
          ⊎ ((s : Said) × (outcome axes 0 job work pair_records ≡ fine s) × (n ≡ no_set) × (i ≡ 0) × (BothSets job x y → ⊥))
      go (refused m j) f g = let a : m ≡ n = cc in let b : j ≡ i = cc in inl (f ∙ ap₂ refused a b)
      go (fine s) f g = let a = no-sets s f n i g in inr (s, f, a.0, a.1, a.2)
