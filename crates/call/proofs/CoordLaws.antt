-- The coordinates that the store copies from the job's bytes are those of the definition, region by region; and they are bytes. Assumes nothing.
use mathlib.Core.Path.{◌≡◌, refl, sym, ap, ap₂, ◌∙◌}
use mathlib.Core.List.{List, [], ◌∷◌, ◌++◌, append_assoc, map}
use Prim.Native.Nat.{ℕ, zero, suc, ◌+◌, ◌*◌, ◌/◌, ◌%◌, ◌≤◌, ◌<◌}
use native.Mathlib.Nat.{add-zero, mul_comm}
use native.Mathlib.Omega.{arith}
use lib.ListN.{length, get_or, drop}
use lib.Seq.{drop-drop}
use Rattle.laws.specs.Every.{All}
use Rattle.laws.specs.Bytes.{be, bytes_of}
use Rattle.laws.specs.Bounded.{tabulate}
use Rattle.laws.specs.LentRange.{seg}
use Rattle.laws.specs.Joining.{join_all}
use Rattle.laws.proofs.BytesLaws.{be-drop, bytes_low}
use Rattle.laws.proofs.EveryLaws.{all, all_map, all_append, all-get_or}
use Rattle.laws.proofs.Products.{row_fits}
use Rattle.laws.proofs.RangeLaws.{seg-add, seg-cons, seg-none}
use Rattle.store.specs.Lent.{chain, coords_at, coords_in}
use Rattle.said.specs.Records.{record_bytes, record_start, after_record, region_length, coordinates_start}
use Rattle.said.specs.Sets.{coordinates, region_list, Region}
use Rattle.stores.specs.Stores.{Bytes}
use Rattle.said.specs.Job.{Said}
use Rattle.said.proofs.RecordLaws.{be-two}
use Rattle.said.proofs.RegionLaws.{regions-at}
use Rattle.call.specs.Build.{region_bytes}
use Rattle.call.specs.Build as whole

two_bytes : (a b : ℕ) → a < 256 → b < 256 → bytes_of 2 (a * 256 + b) ≡ a ∷ b ∷ []
unfolding bytes_of
two_bytes a b h k =
    let x : (a * 256 + b) / 256 % 256 ≡ a = omega arith in
    let y : (a * 256 + b) % 256 ≡ b = omega arith in
    rw (x, y)

module _ (job : List ℕ) (bytes : (k : ℕ) → get_or job k 0 < 256) where
  -- two bytes of the job are those of the number that they are
  pair_is : (q : ℕ) → q + 2 ≤ length job → seg q 2 job ≡ bytes_of 2 (be 2 job q)
  pair_is q h =
      seg-cons q 1 job (omega arith)
      ∙ ap (λ (l : List ℕ). get_or job q 0 ∷ l) (seg-cons (q + 1) 0 job (omega arith) ∙ ap (λ (l : List ℕ). get_or job (q + 1) 0 ∷ l) (seg-none (q + 1 + 1) job))
      ∙ sym (ap (bytes_of 2) (be-two job q) ∙ two_bytes (get_or job q 0) (get_or job (q + 1) 0) (bytes q) (bytes (q + 1)))

  -- the three of one axis
  axis-is : (at : ℕ) → at + record_bytes ≤ length job
      → seg (at + 4) 6 job ≡ bytes_of 2 (be 2 (drop at job) 4) ++ (bytes_of 2 (be 2 (drop at job) 6) ++ bytes_of 2 (be 2 (drop at job) 8))
  axis-is at h =
      let e : at + 4 + 2 ≡ at + 6 = omega arith in
      let f : at + 6 + 2 ≡ at + 8 = omega arith in
      rw (be-drop 2 at job 4, be-drop 2 at job 6, be-drop 2 at job 8, ← pair_is (at + 4) (omega arith), ← pair_is (at + 6) (omega arith), ← pair_is (at + 8) (omega arith))
      (seg-add (at + 4) 2 4 job ∙ ap (λ (q : ℕ). seg (at + 4) 2 job ++ seg q 4 job) e
      ∙ ap (λ (l : List ℕ). seg (at + 4) 2 job ++ l) (seg-add (at + 6) 2 2 job ∙ ap (λ (q : ℕ). seg (at + 6) 2 job ++ seg q 2 job) f))

  -- the axes from k on; the first of them is the record at byte `at`
  axes-are : (n k from at : ℕ) → at + 4 ≡ from + record_start k → at + region_length n ≤ length job
      → join_all (tabulate k n (λ a. seg (from + record_start a) 6 job)) ≡ region_bytes (coordinates n (drop at job))
  unfolding join_all tabulate coordinates region_bytes
  axes-are zero k from at e h = refl
  axes-are (suc n) k from at e h =
      let ih = axes-are n (suc k) from (at + record_bytes) (omega arith) (omega arith) in
      let here : seg (from + record_start k) 6 job ≡ seg (at + 4) 6 job = ap (λ (q : ℕ). seg q 6 job) (sym e) in
      ap₂ ◌++◌ (here ∙ axis-is at (omega arith)) (ih ∙ ap (λ (l : List ℕ). region_bytes (coordinates n l)) (sym (drop-drop record_bytes at job)))
      ∙ regroup (bytes_of 2 (be 2 (drop at job) 4)) (bytes_of 2 (be 2 (drop at job) 6)) (bytes_of 2 (be 2 (drop at job) 8)) (region_bytes (coordinates n (after_record (drop at job))))
    where
      regroup : (a b c d : List ℕ) → (a ++ (b ++ c)) ++ d ≡ a ++ (b ++ (c ++ d))
      regroup a b c d = simp append_assoc

  pub coords-at-are : (axes n q : ℕ) → region_length axes * n ≤ length job → q < n → coords_at job axes (coordinates_start axes q) ≡ region_bytes (get_or (region_list axes n job) q [])
  unfolding coords_at chain
  coords-at-are axes n q room h =
      let m : region_length axes * q ≡ q * region_length axes = mul_comm (region_length axes) q in
      let t : region_length axes * n ≡ n * region_length axes = mul_comm (region_length axes) n in
      axes-are axes 0 (coordinates_start axes q) (q * region_length axes) (omega arith) (omega (arith, row_fits (region_length axes) n q h))
      ∙ ap region_bytes (sym (regions-at axes n job q h))

map_is : {B : Type 0} (F : ℕ → B) (l : List ℕ) (G : ℕ → B) (k : ℕ) → ((i : ℕ) → i < length l → G (k + i) ≡ F (get_or l i 0)) → tabulate k (length l) G ≡ map F l
unfolding tabulate
map_is F [] G k h = refl
map_is F (x ∷ l) G k h =
    ap₂ ◌∷◌ (ap G (sym (add-zero k)) ∙ h 0 (omega arith))
    (map_is F l G (suc k) (λ i b. ap G (move k i) ∙ h (suc i) (omega arith)))
  where
    move : (k i : ℕ) → suc k + i ≡ k + suc i
    move k i = omega arith

pub coords-are : (job : List ℕ) → ((k : ℕ) → get_or job k 0 < 256) → (axes n : ℕ) → region_length axes * n ≤ length job → (w : List ℕ) (starts : ℕ) (used : List ℕ)
    → All (λ q. q < n) used → ((i : ℕ) → i < length used → get_or w (starts + i) 0 ≡ coordinates_start axes (get_or used i 0))
    → coords_in job axes w starts (length used) ≡ map (λ q. region_bytes (get_or (region_list axes n job) q [])) used
unfolding coords_in
coords-are job bytes axes n room w starts used below from =
    map_is (λ q. region_bytes (get_or (region_list axes n job) q [])) used (λ r. coords_at job axes (get_or w (starts + r) 0)) 0
    (λ i h.
    let z : 0 + i ≡ i = omega arith in
    ap (λ (j : ℕ). coords_at job axes (get_or w (starts + j) 0)) z
    ∙ ap (coords_at job axes) (from i h)
    ∙ coords-at-are job bytes axes n (get_or used i 0) room (all-get_or (λ q. q < n) used i 0 below h))

-- ---- bytes

region-bytes : (c : Region) → Bytes (region_bytes c)
unfolding region_bytes
region-bytes [] = tt
region-bytes (x ∷ c) = all_append (λ b. b < 256) (bytes_of 2 x) (region_bytes c) (bytes_low 2 x) (region-bytes c)

pub coords-bytes : (s : Said) → All Bytes (whole.coords_in_use s)
unfolding whole.coords_in_use
coords-bytes s = all_map Bytes (λ q. region_bytes (get_or s.regions q [])) s.used (all (λ q. region-bytes (get_or s.regions q [])) s.used)
