-- Coordinates as bytes and as numbers: neither loses the other. Assumes nothing.
use mathlib.Core.Path.{◌≡◌, refl, sym, ap, ap₂, ◌∙◌}
use mathlib.Core.List.{List, [], ◌∷◌, ◌++◌}
use Prim.Native.Nat.{ℕ, zero, suc, ◌+◌, ◌*◌, ◌/◌, ◌%◌, ◌≤◌, ◌<◌}
use native.Mathlib.Omega.{arith}
use lib.ListN.{length, get_or}
use Rattle.laws.specs.Every.{All}
use Rattle.laws.specs.Bytes.{be, bytes_of}
use Rattle.laws.specs.LentRange.{seg}
use Rattle.laws.proofs.RangeLaws.{seg-add, seg-cons, seg-none}
use Rattle.said.specs.Sets.{Region}
use Rattle.said.proofs.RecordLaws.{be-two}
use Rattle.reader.specs.Store.{words}
use Rattle.stores.proofs.PartLaws as parts
use Rattle.call.specs.Build.{region_bytes}

two_bytes : (a b : ℕ) → a < 256 → b < 256 → bytes_of 2 (a * 256 + b) ≡ a ∷ b ∷ []
unfolding bytes_of
two_bytes a b h k =
    let x : (a * 256 + b) / 256 % 256 ≡ a = omega arith in
    let y : (a * 256 + b) % 256 ≡ b = omega arith in
    rw (x, y)

-- the numbers of two bytes each
abbrev back_of : List ℕ → List ℕ
back_of [] = []
back_of (h ∷ []) = []
back_of (h ∷ l ∷ bs) = (h * 256 + l) ∷ back_of bs

region-back : (c : Region) → All (λ x. x < 65536) c → back_of (region_bytes c) ≡ c
unfolding region_bytes bytes_of
region-back [] h = refl
region-back (x ∷ c) h = let l = h.0 in ap₂ ◌∷◌ (omega arith) (region-back c h.1)

pub region-once : (c d : Region) → All (λ x. x < 65536) c → All (λ x. x < 65536) d → region_bytes c ≡ region_bytes d → c ≡ d
region-once c d h k e = sym (region-back c h) ∙ ap back_of e ∙ region-back d k

module _ (s : List ℕ) (bytes : (k : ℕ) → get_or s k 0 < 256) where
  pair_is : (q : ℕ) → q + 2 ≤ length s → seg q 2 s ≡ bytes_of 2 (be 2 s q)
  pair_is q h =
      seg-cons q 1 s (omega arith)
      ∙ ap (λ (l : List ℕ). get_or s q 0 ∷ l) (seg-cons (q + 1) 0 s (omega arith) ∙ ap (λ (l : List ℕ). get_or s (q + 1) 0 ∷ l) (seg-none (q + 1 + 1) s))
      ∙ sym (ap (bytes_of 2) (be-two s q) ∙ two_bytes (get_or s q 0) (get_or s (q + 1) 0) (bytes q) (bytes (q + 1)))

  -- n numbers in a row, as they stand
  pub words-bytes : (n p : ℕ) → p + 2 * n ≤ length s → seg p (2 * n) s ≡ region_bytes (words s p n)
  unfolding words region_bytes
  words-bytes zero p h = let z : 2 * 0 ≡ 0 = omega arith in rw z (seg-none p s)
  words-bytes (suc n) p h =
      let z : 2 * suc n ≡ 2 + 2 * n = omega arith in
      rw z (seg-add p 2 (2 * n) s ∙ ap₂ ◌++◌ (pair_is p (omega arith)) (words-bytes n (p + 2) (omega arith)))

  pub words_small : (n p : ℕ) → All (λ x. x < 65536) (words s p n)
  unfolding words
  words_small zero p = tt
  words_small (suc n) p = (parts.be-two s bytes p, words_small n (p + 2))
