-- Mode 1 in the lent memory: set n has the id n, id x has the word x, and there is one subtable; of at most 65,535 sets. Assumes nothing.
use mathlib.Core.Path.{◌≡◌, refl, sym, ap, ◌∙◌}
use mathlib.Core.List.{List, [], ◌∷◌}
use Prim.Native.Nat.{ℕ, ◌≤◌, ◌<◌}
use native.Mathlib.Omega.{arith}
use lib.ListN.{length, get_or}
use Rattle.laws.specs.Every.{EachTwo}
use Rattle.laws.specs.Bounded.{up_to}
use Rattle.laws.proofs.UpLaws.{up-long, up_at, up-differ}
use Rattle.shapes.specs.Shape.{Shape}
use Rattle.sets.specs.Set.{Set}
use Rattle.groups.specs.Cover.{cover_of}
use Rattle.store.specs.Placing.{Final, all_runs, id_words, stored}
use Rattle.readback.proofs.PlainLaws.{plain, plain-run}
use Rattle.readback.proofs.MapBack.{map_at}
use Rattle.said.specs.Job.{Said}
use Rattle.encoder.specs.Packed.{Packed, own}
use Rattle.finishing.specs.declared.answers.Report.{Report}
use Rattle.finishing.specs.Late.{report_of}
use Rattle.call.specs.Lending.{Lending}
use Rattle.call.specs.Build.{packed_of, after}
use Rattle.accepted.proofs.ManyLaws.{two-join}
use Rattle.accepted.proofs.RunSound.{words-once}
use Rattle.accepted.proofs.Accepted.{Accepted, packed_in, map_is, id-at}
use Rattle.accepted.proofs.PastLaws.{ids-long, count-ids}

-- the map of one group of all ids in order
plain_word : (s : Shape) (n : ℕ) (m : List ℕ) (x : ℕ) → x < n → x < length m → get_or (stored (id_words 0 (plain s n)) m) x 0 ≡ x
plain_word s n m x h l =
    let e : get_or (up_to n) x 0 ≡ x = up_at n x h in
    let once : EachTwo (λ (a b : ℕ × ℕ). b.0 ≡ a.0 → ⊥) (id_words 0 (plain s n)) =
    words-once (plain s n) (two-join (λ (x y : ℕ). x ≡ y → ⊥) (up_to n ∷ []) (up-differ n, tt) (tt, tt)) in
    let a = map_at (plain s n) m 0 x once (omega arith) (omega (arith, up-long n)) (omega arith) in
    ap (λ (k : ℕ). get_or (stored (id_words 0 (plain s n)) m) k 0) (sym e) ∙ a ∙ omega arith

module _ (regions : ℕ) (jobs : List Set) (few : length jobs ≤ 65535) where
  own-word : (m : List ℕ) (x : ℕ) → x < length jobs → x < length m → get_or (stored (id_words 0 (all_runs (own regions jobs).finals)) m) x 0 ≡ x
  unfolding own
  own-word m x h l =
      ap (λ (rs : List Final). get_or (stored (id_words 0 rs) m) x 0) (plain-run (cover_of regions jobs) (length jobs) few)
      ∙ plain_word (cover_of regions jobs) (length jobs) m x h l

  own-tables : length (all_runs (own regions jobs).finals) ≡ 1
  unfolding own
  own-tables = ap length (plain-run (cover_of regions jobs) (length jobs) few)

own-id : (regions : ℕ) (jobs : List Set) (n : ℕ) → n < length jobs → get_or (own regions jobs).ids n 0 ≡ n
unfolding own
own-id regions jobs n h = up_at (length jobs) n h

own-sets : (regions : ℕ) (jobs : List Set) → length (own regions jobs).sets ≡ length jobs
unfolding own
own-sets regions jobs = refl

own_is : (mode : ℕ) (s : Said) → mode ≡ 1 → packed_of mode s ≡ own (length s.used) s.sets
unfolding packed_of
own_is mode s e = rw e

module _ (c : Lending) (r : Report) (a : Accepted c r) (m : c.mode ≡ 1) where
  abbrev sets : List Set
  sets = a.said.sets

  abbrev k : Packed
  k = own (length a.said.used) sets

  is : packed_in c a.said ≡ k
  is = own_is c.mode a.said m

  -- an id for each set, and no others
  pub plain-count : r.ids ≡ length sets
  plain-count = count-ids c r a ∙ ap (λ (p : Packed). length p.sets) is ∙ own-sets (length a.said.used) sets

  pub plain-id : (n : ℕ) → n < length sets → get_or (after c).lent.ids n 0 ≡ n
  plain-id n h =
      id-at c r a n (omega (arith, ids-long c.mode a.said))
      ∙ ap (λ (p : Packed). get_or p.ids n 0) is ∙ own-id (length a.said.used) sets n h

  module _ (few : length sets ≤ 65535) where
    pub plain_map : (x : ℕ) → x < length sets → get_or (after c).lent.map x 0 ≡ x
    plain_map x h =
        ap (λ (l : List ℕ). get_or l x 0) (map_is c r a)
        ∙ ap (λ (p : Packed). get_or (stored (id_words 0 (all_runs p.finals)) c.lent.map) x 0) is
        ∙ own-word (length a.said.used) sets few c.lent.map x h (omega (arith, a.room.map-fits, count-ids c r a, plain-count))

    pub plain-table : r.subtables ≡ 1
    plain-table =
        unfold report_of in ap (λ (t : Report). t.subtables) a.report-is
        ∙ ap (λ (p : Packed). length (all_runs p.finals)) is ∙ own-tables (length a.said.used) sets few
