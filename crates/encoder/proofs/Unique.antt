-- What `lay_out` promises fixes every place. What is promised of packed sets fixes every number that is answered, the ids, the origins, the log
-- and the final groups by the ids of their rows. Assumes nothing.
use mathlib.Core.Path.{◌≡◌, sym, ap, ap₂, ◌∙◌}
use mathlib.Core.List.{List, map}
use Prim.Native.Nat.{ℕ, ◌+◌, ◌-◌, ◌*◌}
use lib.ListN.{length, get_or, length-map}
use Rattle.laws.specs.LentRange.{seg}
use Rattle.laws.proofs.BoundedLaws.{length-tabulate}
use Rattle.store.specs.Placing.{Final}
use Rattle.store.specs.Lent.{final_at, finals_at}
use Rattle.encoder.specs.Packed.{Packed}
use Rattle.encoder.specs.Lent.{relabel, origins_in, PackedAt}
use Rattle.encoder.specs.LentPlaces.{PlacesAt}
use Rattle.encoder.specs.declared.places.Places.{Places}
use Rattle.encoder.specs.declared.encoded.Encoded.{Encoded}

pub places-once : {base sets regions : ℕ} {p q : Places} → PlacesAt base sets regions p → PlacesAt base sets regions q → p ≡ q
places-once {base} {sets} {regions} {p} {q} a b =
    let room-same = a.room-is ∙ sym b.room-is in
    let slots_same = a.slots-is ∙ sym b.slots-is in
    let order_same : p.order ≡ q.order = a.order_is ∙ ap₂ (λ (s r : ℕ). s + (r + 1) * regions) slots_same room-same ∙ sym b.order_is in
    let place_same : p.place ≡ q.place = a.place_is ∙ ap₂ (λ (s r : ℕ). s + 2 * r) order_same room-same ∙ sym b.place_is in
    let log-same : p.log ≡ q.log = a.log_is ∙ ap₂ (λ (s r : ℕ). s + 6 * r) place_same room-same ∙ sym b.log_is in
    let counts_same : p.counts ≡ q.counts = a.counts-is ∙ ap₂ (λ (s r : ℕ). s + r) order_same room-same ∙ sym b.counts-is in
    let costs-same : p.costs ≡ q.costs = a.costs-is ∙ ap₂ (λ (s r : ℕ). s + 2 * r) place_same room-same ∙ sym b.costs-is in
    let columns-same : p.columns ≡ q.columns = a.columns-is ∙ ap₂ (λ (s r : ℕ). s + 3 * r) place_same room-same ∙ sym b.columns-is in
    λ i. record {
      sets = (a.sets-is ∙ sym b.sets-is) i;
      regions = (a.regions-is ∙ sym b.regions-is) i;
      room = room-same i;
      line = (a.line-is ∙ sym b.line-is) i;
      first = (a.first-is ∙ sym b.first-is) i;
      ids = (a.ids-is ∙ sym b.ids-is) i;
      kinds = (a.kinds-is ∙ sym b.kinds-is) i;
      slots = slots_same i;
      order = order_same i;
      counts = counts_same i;
      homes = (a.homes-is ∙ counts_same ∙ sym b.homes-is) i;
      place = place_same i;
      costs = costs-same i;
      living = (a.living-is ∙ costs-same ∙ sym b.living-is) i;
      columns = columns-same i;
      spots = (a.spots-is ∙ columns-same ∙ sym b.spots-is) i;
      finals = (a.finals-is ∙ columns-same ∙ sym b.finals-is) i;
      into = (a.into-is ∙ ap₂ (λ (s r : ℕ). s + 4 * r) place_same room-same ∙ sym b.into-is) i;
      log = log-same i;
      rows = (a.rows_is ∙ ap₂ (λ (s r : ℕ). s + 3 * (r - 1)) log-same room-same ∙ sym b.rows_is) i;
    }

-- how many final groups there are
count-is : {k : Packed} {p : Places} {e : Encoded} {w : List ℕ} → PackedAt k p e w → e.count ≡ length k.finals
unfolding relabel finals_at
count-is {k} {p} {e} {w} h =
    sym (length-tabulate 0 e.count (λ g. final_at p.regions w (p.finals + 3 * g)))
    ∙ sym (length-map (finals_at p.regions p.finals e.count w) (λ (g : Final). record { shape = g.shape; ids = map (λ x. get_or k.ids x 0) g.ids }))
    ∙ ap (λ (l : List Final). length l) h.finals-are

-- what two such have in common, of the same sets and the same places
pub record PackedOnce (k : Packed) (p : Places) (e e' : Encoded) (w w' : List ℕ) : Type 0 where
  pub numbers : e ≡ e'
  pub ids : seg p.ids p.sets w ≡ seg p.ids p.sets w'
  pub origins : origins_in p e.groups w ≡ origins_in p e'.groups w'
  pub log : seg p.log (3 * e.merges) w ≡ seg p.log (3 * e'.merges) w'
  pub finals : relabel (λ x. get_or k.ids x 0) (finals_at p.regions p.finals e.count w) ≡ relabel (λ x. get_or k.ids x 0) (finals_at p.regions p.finals e'.count w')

pub packed-once : {k : Packed} {p : Places} {e e' : Encoded} {w w' : List ℕ} → PackedAt k p e w → PackedAt k p e' w' → PackedOnce k p e e' w w'
packed-once a b = record {
  numbers = λ i. record {
    distinct = (a.distinct-is ∙ sym b.distinct-is) i;
    count = (count-is a ∙ sym (count-is b)) i;
    groups = (a.groups-is ∙ sym b.groups-is) i;
    merges = (a.merges-is ∙ sym b.merges-is) i;
    weighed = (a.weighed-is ∙ sym b.weighed-is) i;
    before = (a.before-is ∙ sym b.before-is) i;
    after = (a.after_is ∙ sym b.after_is) i;
  };
  ids = a.ids-are ∙ sym b.ids-are;
  origins = a.origins-are ∙ sym b.origins-are;
  log = a.log-are ∙ sym b.log-are;
  finals = a.finals-are ∙ sym b.finals-are;
}
