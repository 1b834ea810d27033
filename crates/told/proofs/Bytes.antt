-- D2's first half: from the job's bytes to the sets that it says, every value at its region and zero elsewhere. Assumes
-- nothing.
use mathlib.Core.Path.{◌≡◌, refl, sym, ap, ◌∙◌}
use mathlib.Core.Bool.{true}
use mathlib.Core.List.{List, [], ◌∷◌}
use mathlib.Core.Logic.{⊎_elim}
use Prim.Native.Nat.{ℕ, ◌+◌, ◌-◌, ◌≤◌, ◌<◌}
use native.Mathlib.Omega.{arith}
use lib.ListN.{length, get_or}
use Rattle.laws.proofs.Cases.{lt-or-ge}
use Rattle.laws.proofs.EveryLaws.{all-get_or}
use Rattle.sets.specs.Set.{word_of, Proper}
use Rattle.sets.proofs.SetLaws.{word-past}
use Rattle.said.specs.Records.{end_kind, region_number, record_at, record_count}
use Rattle.said.specs.Sets.{Region, first_like, has, index_in}
use Rattle.said.specs.Job.{Said, fine, outcome}
use Rattle.said.proofs.RegionLaws.{like-below, regions-at}
use Rattle.said.proofs.MeaningLaws.{like-here, equal-first}
use Rattle.said.proofs.IndexLaws.{index_at, index_below}
use Rattle.said.proofs.SoundLaws.{fine-walk}
use Rattle.told.specs.Told.{ends_before, ValueIn, FirstUse, coordinates_at, index_of, Given, Told}
use Rattle.told.proofs.WordLaws.{count-grows}
use Rattle.told.proofs.TellLaws.{Telling, all_told}

has-none : (q : ℕ) (l : List ℕ) → l ≡ [] → has q l ≡ true → ⊥
unfolding has
has-none q [] e h = let z : ◌≡◌ {A = ℕ} 0 1 = cc in omega arith
has-none q (p ∷ l) e h = let z : ◌≡◌ {A = ℕ} 0 1 = cc in omega arith

module _ (axes : ℕ) (job : List ℕ) (s : Said) (t : Telling axes job (record_count job) s) (over : s.named ≡ []) where
  coordinates-at : (p : ℕ) → p < length s.regions → get_or s.regions p [] ≡ coordinates_at axes job p
  coordinates-at p h = ap (λ (l : List Region). get_or l p []) t.regions-are ∙ regions-at axes (length s.regions) job p h

  -- the first region like p has its coordinates
  first-same : (p q : ℕ) → p < length s.regions → first_like s.regions p ≡ q → coordinates_at axes job p ≡ coordinates_at axes job q
  unfolding first_like
  first-same p q h e =
      let l = like-below s.regions p h in
      let m : q < length s.regions = omega (arith, e) in
      sym (coordinates-at p h) ∙ like-here (get_or s.regions p []) s.regions l ∙ ap (λ (k : ℕ). get_or s.regions k []) e ∙ coordinates-at q m

  module _ (n i : ℕ) (v : ValueIn job n i) where
    most : ends_before job i ≤ length s.sets
    most =
        let e : i + (record_count job - i) ≡ record_count job = omega (arith, v.within) in
        omega (arith, count-grows end_kind job (record_count job - i) i, ap (ends_before job) e, t.ends)

    ended : ends_before job i < length s.sets
    ended = ⊎_elim
        (λ (h : ends_before job i < length s.sets). h)
        (λ (h : length s.sets ≤ ends_before job i).
        absurd (has-none (first_like s.regions (region_number (record_at job i))) s.named over (t.begun-told i v.within v.is-value (omega (arith, most))).1))
        (lt-or-ge (ends_before job i) (length s.sets))

    value-given : Given axes job s n i
    value-given =
        let x = t.told i v.within v.is-value ended in
        let p = region_number (record_at job i) in
        let known = t.known i v.within v.is-value in
        record {
          set_ended = omega (arith, ended, v.in-set);
          region-known = known;
          index_below = index_below (first_like s.regions p) s.used x.in_use;
          coordinates-are = sym (first-same p (get_or s.used (index_of s p) 0) known (sym (index_at (first_like s.regions p) s.used x.in_use)));
          word-is = ap (λ (k : ℕ). word_of (get_or s.sets k []) (index_of s p)) (sym v.in-set) ∙ x.word-is;
        }

  -- the region in use at an index has the coordinates of the one that its first use names
  used-same : (r : ℕ) → r < length s.used → (x : FirstUse job (record_count job) s r)
      → coordinates_at axes job (get_or s.used r 0) ≡ coordinates_at axes job (region_number (record_at job x.place))
  used-same r h x =
      let v : ValueIn job (ends_before job x.place) x.place = record { within = x.within; is-value = x.is-value; in-set = refl } in
      ap (λ (k : ℕ). coordinates_at axes job (get_or s.used k 0)) (sym x.index_is) ∙ (value-given (ends_before job x.place) x.place v).coordinates-are

  used-once : (q r : ℕ) → q < length s.used → r < length s.used
      → coordinates_at axes job (get_or s.used q 0) ≡ coordinates_at axes job (get_or s.used r 0) → q ≡ r
  used-once q r h l e =
      let x = t.first-use q h in
      let y = t.first-use r l in
      let a = region_number (record_at job x.place) in
      let b = region_number (record_at job y.place) in
      let same : coordinates_at axes job a ≡ coordinates_at axes job b = sym (used-same q h x) ∙ e ∙ used-same r l y in
      let one : get_or s.regions a [] ≡ get_or s.regions b [] =
      coordinates-at a (t.known x.place x.within x.is-value) ∙ same ∙ sym (coordinates-at b (t.known y.place y.within y.is-value)) in
      sym x.index_is ∙ ap (λ (k : ℕ). index_in k s.used) (equal-first s.regions a b one) ∙ y.index_is

  all-bytes : Told axes job s
  all-bytes = record {
    sets-are = sym t.ends;
    regions-are = coordinates-at;
    used-known = λ r h. all-get_or (λ p. p < length s.regions) s.used r 0 t.used_low h;
    used-apart = used-once;
    first-use = t.first-use;
    given = value-given;
    unnamed = λ n r h l x. t.silent n r h l
        (λ j m v e f. x j (record { within = m; is-value = v; in-set = e }) (first-same (region_number (record_at job j)) (get_or s.used r 0) (t.known j m v) f));
    past = λ n r h l. word-past (length s.used) r (get_or s.sets n []) (all-get_or (Proper (length s.used)) s.sets n [] t.good.sets-proper h) l;
  }

-- THE LAW: of every job that is taken
pub told : (axes mode : ℕ) (job : List ℕ) (work pairs : ℕ) (s : Said) → outcome axes mode job work pairs ≡ fine s → Told axes job s
told axes mode job work pairs s e =
    let a = all_told axes mode job (record_count job) s (fine-walk axes mode job work pairs s e).1 in
    all-bytes axes job s a.0 a.1
