-- Set k is given by work exactly where the definition says that it is. Assumes nothing.
use mathlib.Core.Path.{◌≡◌, refl, sym, ap, ◌∙◌}
use mathlib.Core.Bool.{true, false}
use mathlib.Core.List.{List, []}
use mathlib.Core.Logic.{⊎_elim}
use mathlib.Core.Option.{some}
use Prim.Native.Nat.{ℕ, ◌+◌, ◌*◌, ◌/◌, ◌%◌, ◌≤◌, ◌<◌}
use native.Mathlib.Omega.{arith}
use lib.Dec.{ltb}
use lib.IntN.{pos}
use lib.ListN.{length, get_or}
use borrow.Author.Tests.{lt-ltb, ltb-true}
use Rattle.laws.specs.Signed.{value, zero_word}
use Rattle.laws.proofs.Cases.{lt-or-ge, and-true, Which, which}
use Rattle.laws.proofs.Cases.Which.{holds, fails}
use Rattle.sets.specs.Set.{Set, Ascending, Proper}
use Rattle.sets.specs.Lent.{entries}
use Rattle.said.specs.Job.{Said}
use Rattle.reader.specs.Store.{region_count, value_of}
use Rattle.stores.specs.Stores.{Parsed, offset_at, parse, read_parsed}
use Rattle.stores.specs.Coordinates.{place_in, read_at, wanted, row_gives, Gives, Distinct}
use Rattle.stores.proofs.ByCoordinates.{place_found, place_at, read_past, at-lost, at-found, judged, judges}
use Rattle.stores.proofs.Reading.{list-parsed}
use Rattle.call.specs.Build.{coords_in_use}
use Rattle.giving.specs.declared.entries.Aims.{Aims}
use Rattle.giving.specs.Lent.{aim_at, aim, row_value, start_in, count_in, SetGiven}
use Rattle.giving.proofs.PassLaws.{value-once}
use Rattle.judging.specs.Judge.{named_in, set_given}
use Rattle.judging.proofs.EntryFacts.{entry-proper, entry-word}
use Rattle.judging.proofs.WantedLaws.{wanted-none, wanted-word, wanted-aim}
use Rattle.judging.proofs.ReadLaws.{There, row-there, there-row, value_there}

-- the words of work aim at a listed region exactly for its coordinates, and both sides have no coordinates twice
pub record Aimed (p : Parsed) (s : Said) (w : List ℕ) (t : Aims) (uses : ℕ) : Type 0 where
  pub listed-are : t.listed ≡ length p.regions
  pub distinct : Distinct p.regions
  pub hit : (u q : ℕ) → u < uses → q < t.listed → get_or w (t.to + u) 0 ≡ q → get_or (coords_in_use s) u [] ≡ get_or p.regions q []
  pub back : (u q : ℕ) → u < uses → q < t.listed → get_or (coords_in_use s) u [] ≡ get_or p.regions q [] → get_or w (t.to + u) 0 ≡ q
  pub once : (u v : ℕ) → u < uses → v < uses → get_or (coords_in_use s) u [] ≡ get_or (coords_in_use s) v [] → u ≡ v

-- set k stands in work
pub record SetIn (s : Said) (w : List ℕ) (uses k : ℕ) : Type 0 where
  pub set_is : entries (start_in w k) (count_in w k) w ≡ get_or s.sets k []
  pub ascending : Ascending 0 (entries (start_in w k) (count_in w k) w)
  pub proper : Proper uses (entries (start_in w k) (count_in w k) w)

zero_is : value zero_word ≡ pos 0
unfolding value
zero_is = refl

module _ (store : List ℕ) (p : Parsed) (e : parse store ≡ some p) (s : Said) (words w : List ℕ) (t : Aims) (uses k : ℕ) (a : Aimed p s w t uses) (b : SetIn s w uses k) where
  abbrev x : ℕ
  x = start_in w k

  abbrev n : ℕ
  n = count_in w k

  abbrev o : ℕ
  o = get_or words k 0 / 65536

  abbrev i : ℕ
  i = get_or words k 0 % 65536

  abbrev set : Set
  set = entries (start_in w k) (count_in w k) w

  abbrev coords : ℕ → List ℕ
  coords u = get_or (coords_in_use s) u []

  low : (j : ℕ) → j < n → get_or w (x + 2 * j) 0 < uses
  low j h = (entry-proper w uses n x j b.proper h).1

  count : region_count store ≡ length p.regions
  count = (list-parsed store p e).count

  -- what the set wants of a listed region
  wants : (q : ℕ) → q < t.listed → wanted (named_in s set) (get_or p.regions q []) ≡ value (aim w t set q)
  wants q h = wanted-aim s w t uses q (get_or p.regions q []) (λ u l. a.hit u q l h) (λ u l. a.back u q l h) n x low

  -- an entry aims at a listed region, or its coordinates are not listed
  unlisted : (j : ℕ) → j < n → t.listed ≤ aim_at w t (x + 2 * j) → (q : ℕ) → q < length p.regions → get_or p.regions q [] ≡ coords (get_or w (x + 2 * j) 0) → ⊥
  unlisted j h l q m f =
      let z = a.back (get_or w (x + 2 * j) 0) q (low j h) (omega (arith, a.listed-are)) (sym f) in
      omega (arith, z, a.listed-are)

  -- ---- from work to the definition

  module _ (g : SetGiven store words w t k) where
    there : There store o i
    there = record { outer-in = g.outer-there; not_null = g.not_null; inner-in = g.inner-there }

    listed-value : (q : ℕ) → q < length p.regions → value_of (read_parsed p o i q) ≡ wanted (named_in s set) (get_or p.regions q [])
    listed-value q h =
        value_there store p e o i q there (omega (arith, count))
        ∙ g.given.reads q (omega (arith, a.listed-are))
        ∙ sym (wants q (omega (arith, a.listed-are)))

    gives : Gives p o i (named_in s set)
    unfolding read_at
    gives = record {
      there = row-there store p e o i there;
      values = λ c. ⊎_elim
          (λ (l : place_in p.regions c < length p.regions).
          listed-value (place_in p.regions c) l ∙ ap (wanted (named_in s set)) (place_at p.regions c l))
          (λ (l : length p.regions ≤ place_in p.regions c).
          read_past p o i (place_in p.regions c) l
          ∙ sym (wanted-none s w c n x
          (λ j h f.
          let m = g.given.listed-all j h in
          let q = aim_at w t (x + 2 * j) in
          let r = a.hit (get_or w (x + 2 * j) 0) q (low j h) m refl in
          omega (arith, l, (place_found p.regions c q (omega (arith, a.listed-are)) (sym r ∙ f)).0))))
          (lt-or-ge (place_in p.regions c) (length p.regions));
    }

    pub given-said : set_given p s words k ≡ true
    unfolding set_given
    given-said = rw (lt-ltb k (length words) g.word-there, ← b.set_is) (judges p o i (named_in s set) a.distinct gives)

  -- ---- and back

  module _ (h : set_given p s words k ≡ true) where
    both : (ltb k (length words) ≡ true) × (row_gives p o i (named_in s (get_or s.sets k [])) ≡ true)
    unfolding set_given
    both = and-true (ltb k (length words)) (row_gives p o i (named_in s (get_or s.sets k []))) h

    gave : Gives p o i (named_in s set)
    gave = judged p o i (named_in s set) (rw b.set_is both.1)

    row : There store o i
    row = there-row store p e o i gave.there

    reads : (q : ℕ) → q < t.listed → row_value store (offset_at store o) i q ≡ value (aim w t set q)
    reads q l =
        let m : q < length p.regions = omega (arith, a.listed-are) in
        sym (value_there store p e o i q row (omega (arith, count)))
        ∙ sym (at-found p a.distinct o i (get_or p.regions q []) q m refl)
        ∙ gave.values (get_or p.regions q [])
        ∙ wants q l

    -- a region that is not listed has another value than zero in the set, and zero in the row
    listed-all : (j : ℕ) → j < n → aim_at w t (x + 2 * j) < t.listed
    listed-all j l = ⊎_elim
        (λ (m : aim_at w t (x + 2 * j) < t.listed). m)
        (λ (m : t.listed ≤ aim_at w t (x + 2 * j)).
        let u = get_or w (x + 2 * j) 0 in
        let z : value (get_or w (x + 2 * j + 1) 0) ≡ value zero_word =
        (ap value (sym (entry-word w 0 n x j b.ascending l))
        ∙ sym (wanted-word s w uses u (low j l) (λ v r f. a.once v u r (low j l) f) n x low)
        ∙ sym (gave.values (coords u))
        ∙ at-lost p o i (coords u) (unlisted j l m)
        ∙ sym zero_is) in
        absurd ((entry-proper w uses n x j b.proper l).0 (value-once (get_or w (x + 2 * j + 1) 0) zero_word z)))
        (lt-or-ge (aim_at w t (x + 2 * j)) t.listed)

    pub said-given : SetGiven store words w t k
    said-given = record {
      word-there = ltb-true k (length words) both.0;
      outer-there = row.outer-in;
      not_null = row.not_null;
      inner-there = row.inner-in;
      given = record { listed-all = listed-all; reads = reads };
    }

  pub not-said : (SetGiven store words w t k → ⊥) → set_given p s words k ≡ false
  not-said d = go (which (set_given p s words k))
    where
      go : Which (set_given p s words k) → set_given p s words k ≡ false
      go (holds h) = absurd (d (said-given h))
      go (fails h) = h
