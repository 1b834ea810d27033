-- The order of glyphs does not show: two builds in mode 0 that are done, of jobs that say the same sets over the same regions. Assumes nothing.
use mathlib.Core.Path.{◌≡◌, refl, sym, ap, subst, ◌∙◌}
use mathlib.Core.List.{List, [], map}
use Prim.Native.Nat.{ℕ, ◌<◌}
use native.Mathlib.Omega.{arith}
use lib.ListN.{length, get_or}
use Rattle.laws.specs.Every.{All}
use Rattle.laws.proofs.ListLaws.{map-map}
use Rattle.sets.specs.Set.{Set}
use Rattle.sets.specs.Ids.{place, distinct}
use Rattle.sets.proofs.IdLaws.{id_below, place_here}
use Rattle.rule.specs.Told.{words}
use Rattle.said.specs.Job.{Said, fine}
use Rattle.said.proofs.SoundLaws.{Bytes}
use Rattle.encoder.specs.Packed.{Packed, shared}
use Rattle.finishing.specs.declared.answers.Report.{Report}
use Rattle.finishing.specs.Answers.{Done}
use Rattle.finishing.specs.Late.{store_for, origin_words, report_of}
use Rattle.call.specs.Lending.{Lending}
use Rattle.call.specs.Build.{region_bytes, coords_in_use, packed_of, outcome_of, answer_of, after}
use Rattle.accepted.proofs.PackedLaws.{WellPacked}
use Rattle.accepted.proofs.Accepted.{coords-long, shared-is, sets-are}
use Rattle.unordered.specs.Same.{SameSets, place_of, SameBuild}
use Rattle.unordered.proofs.Alike.{Fine}
use Rattle.unordered.proofs.Rows.{Renamed, shared_same}
use Rattle.unordered.proofs.Stores.{store_same, report-same, word_same}
use Rattle.unordered.proofs.Done.{IsDone, is-done}

module _ (axes : ℕ) (a b : Lending) (s t : Said) (c d : Report) (same : SameSets s t) (p : IsDone axes a s c) (q : IsDone axes b t d) where
  -- the id that the set of id x has in the other job
  abbrev other : ℕ → ℕ
  other x = place (get_or (distinct s.sets) x []) (distinct t.sets)

  used-same : length t.used ≡ length s.used
  used-same = sym (coords-long t) ∙ ap length (sym same.regions-same) ∙ coords-long s

  abbrev n : ℕ
  n = length s.used

  fine-t : All (Fine n) t.sets
  fine-t = subst (λ (m : ℕ). All (Fine m) t.sets) used-same q.fine-sets

  good-t : WellPacked n (packed_of 0 t)
  good-t = subst (λ (m : ℕ). WellPacked m (packed_of 0 t)) used-same q.good

  renamed : Renamed other (packed_of 0 s) (packed_of 0 t)
  renamed =
      subst (λ (k : Packed). Renamed other k (packed_of 0 t)) (sym (shared-is s))
      (subst (Renamed other (shared n s.sets)) (sym (shared-is t ∙ ap (λ (m : ℕ). shared m t.sets) used-same))
      (shared_same n s.sets t.sets p.fine-sets fine-t same.there same.back))

  stores : store_for axes (coords_in_use s) (packed_of 0 s) ≡ store_for axes (coords_in_use t) (packed_of 0 t)
  stores =
      store_same n other (packed_of 0 s) (packed_of 0 t) renamed p.good good-t axes (coords_in_use s)
      ∙ ap (λ (x : List (List ℕ)). store_for axes x (packed_of 0 t)) same.regions-same

  reports : c ≡ d
  reports =
      p.report-is
      ∙ report-same n other (packed_of 0 s) (packed_of 0 t) renamed p.good good-t axes (coords_in_use s)
      ∙ ap (λ (x : List (List ℕ)). report_of axes x (packed_of 0 t)) same.regions-same
      ∙ sym q.report-is

  places_same : (x y : ℕ) → x < length s.sets → y < length t.sets → get_or s.sets x [] ≡ get_or t.sets y [] → place_of a x ≡ place_of b y
  places_same x y h k e =
      let u = get_or s.sets x [] in
      let i = place u (distinct s.sets) in
      let low : i < length (packed_of 0 s).sets = omega (arith, ap length (sets-are s), id_below s.sets x h) in
      let that : other i ≡ place (get_or t.sets y []) (distinct t.sets) =
      ap (λ (z : Set). place z (distinct t.sets)) (place_here u (distinct s.sets) (id_below s.sets x h) ∙ e) in
      ap (λ (z : ℕ). get_or (after a).lent.map z 0) (p.id-is x h)
      ∙ ap (λ (l : List ℕ). get_or l i 0) p.map_is
      ∙ word_same n other (packed_of 0 s) (packed_of 0 t) renamed p.good good-t a.lent.map b.lent.map i low p.map-room q.map-room
      ∙ ap (λ (l : List ℕ). get_or l (other i) 0) (sym q.map_is)
      ∙ ap (λ (z : ℕ). get_or (after b).lent.map z 0) (that ∙ sym (q.id-is y k))

  both : a.axes ≡ axes → b.axes ≡ axes → SameBuild a b s t c d
  both f g = record {
    counts = reports;
    store = ap (λ (n : ℕ). store_for n (coords_in_use s) (packed_of 0 s)) f ∙ stores ∙ sym (ap (λ (n : ℕ). store_for n (coords_in_use t) (packed_of 0 t)) g);
    store_is = p.store_is ∙ sym (ap (λ (n : ℕ). store_for n (coords_in_use s) (packed_of 0 s)) f);
    out = p.store_is ∙ stores ∙ sym q.store_is;
    log = p.log_is ∙ ap words renamed.log_is ∙ sym q.log_is;
    origins = p.origins-is ∙ ap (origin_words 0) renamed.origins-are ∙ sym q.origins-is;
    places = places_same;
  }

-- of equal coordinates: where the regions in use, by first use, have these numbers as coordinates, their bytes are
-- equal
pub regions-same : (s t : Said) → map (λ q. get_or s.regions q []) s.used ≡ map (λ q. get_or t.regions q []) t.used → coords_in_use s ≡ coords_in_use t
unfolding coords_in_use
regions-same s t e =
    sym (map-map region_bytes (λ q. get_or s.regions q []) s.used) ∙ ap (map region_bytes) e ∙ map-map region_bytes (λ q. get_or t.regions q []) t.used

-- THE THEOREM: RULES U1, in mode 0, whatever is lent for either
pub unordered : (a b : Lending) (s t : Said) (c d : Report) → a.mode ≡ 0 → b.mode ≡ 0 → a.axes ≡ b.axes → Bytes a.job → Bytes b.job
    → outcome_of a ≡ fine s → outcome_of b ≡ fine t → SameSets s t → answer_of a ≡ Done c → answer_of b ≡ Done d
    → SameBuild a b s t c d
unordered a b s t c d m m' x bytes bytes' e f same done done' =
    both a.axes a b s t c d same (is-done a s c m bytes e done)
    (subst (λ (n : ℕ). IsDone n b t d) (sym x) (is-done b t d m' bytes' f done')) refl (sym x)
