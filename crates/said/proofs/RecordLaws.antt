-- Numbers of a record, and its tests one by one. Assumes nothing.
use mathlib.Core.Path.{◌≡◌, refl, sym, ap, ◌∙◌}
use mathlib.Core.Bool.{Bool, true, false, not, ◌&&◌, ◌||◌}
use mathlib.Core.List.{List, [], ◌∷◌}
use Prim.Native.Nat.{ℕ, suc, ◌+◌, ◌-◌, ◌*◌, ◌/◌, ◌%◌, ◌^◌, ◌≤◌, ◌<◌}
use native.Mathlib.Nat.{add-zero}
use native.Mathlib.Omega.{arith}
use lib.ListN.{get_or}
use lib.Dec.{eqb, ltb}
use borrow.Author.Tests.{eq-eqb, ne_eqb, lt-ltb, le-ltb, ltb-true, eqb-true, not-true}
use Rattle.laws.specs.Bytes.{be}
use Rattle.laws.specs.Signed.{word, signed, zero_word}
use Rattle.laws.proofs.Cases.{and-true, true-false}
use Rattle.laws.proofs.SignedLaws.{value-twos, word_value}
use Rattle.limits.specs.Limits.{max_regions, max_items}
use Rattle.said.specs.Records.{is_axis, is_known, region_number, axis_of, first_wrong_byte, value_as_word}
use Rattle.said.specs.Refusals.{unknown_region, region_twice, sets_full, unknown_kind, not_zero, axis_out_of_turn, axis_too_late, region_unfinished, first_failed, in_turn, form_refusal, value_no, end_refusal, byte_of}

pub be-two : (s : List ℕ) (p : ℕ) → be 2 s p ≡ get_or s p 0 * 256 + get_or s (p + 1) 0
unfolding be
be-two s p = rw add-zero (omega arith)

pub be-four : (s : List ℕ) → be 4 s 4 ≡ be 2 s 4 * 65536 + be 2 s 6
unfolding be
be-four s = omega arith

turned : (x : ℕ) → x < 256 ^ 4 → word (signed 4 x) ≡ (x + zero_word) % 256 ^ 4
turned x h = ap word (sym (value-twos x h)) ∙ word_value ((x + zero_word) % 256 ^ 4)

pub word_low : (r : List ℕ) (x : ℕ) → x ≡ be 4 r 4 → x < 2147483648 → x + 2147483648 ≡ value_as_word r
unfolding value_as_word
word_low r x e h = rw (← e, turned x (omega arith)) (omega arith)

pub word-high : (r : List ℕ) (x : ℕ) → x ≡ be 4 r 4 → x < 4294967296 → 2147483648 ≤ x → x - 2147483648 ≡ value_as_word r
unfolding value_as_word
word-high r x e l h = rw (← e, turned x (omega arith)) (omega arith)

-- ---- tests

-- no test fails: the first holds, and no other fails
pub first-passed : (b : Bool) (n : ℕ) (l : List (Bool × ℕ)) → first_failed ((b, suc n) ∷ l) ≡ 0 → (b ≡ true) × (first_failed l ≡ 0)
unfolding first_failed
first-passed true n l z = (refl, z)
first-passed false n l z = absurd (omega arith)

-- ---- R30 to R34

-- which of the five, one by one
module _ (axes before : ℕ) (late : Bool) (r : List ℕ) where
  pub form-unknown : is_known r ≡ false → unknown_kind ≡ form_refusal axes before late r
  unfolding form_refusal first_failed
  form-unknown k = rw k

  module _ (k : is_known r ≡ true) where
    pub form-zero : (first_wrong_byte r ≡ 0 → ⊥) → not_zero ≡ form_refusal axes before late r
    unfolding form_refusal first_failed
    form-zero n = rw (k, ne_eqb (first_wrong_byte r) 0 n)

    module _ (z : first_wrong_byte r ≡ 0) where
      module _ (a : is_axis r ≡ true) where
        pub form-turn : in_turn axes before r ≡ false → axis_out_of_turn ≡ form_refusal axes before late r
        unfolding form_refusal first_failed
        form-turn t = rw (k, eq-eqb (first_wrong_byte r) 0 z, a, t)

        module _ (t : in_turn axes before r ≡ true) where
          pub form-late : late ≡ true → axis_too_late ≡ form_refusal axes before late r
          unfolding form_refusal first_failed
          form-late l = rw (k, eq-eqb (first_wrong_byte r) 0 z, a, t, l)

          pub form-axis : late ≡ false → 0 ≡ form_refusal axes before late r
          unfolding form_refusal first_failed
          form-axis l = rw (k, eq-eqb (first_wrong_byte r) 0 z, a, t, l)

      module _ (a : is_axis r ≡ false) where
        pub form-part : (before % axes ≡ 0 → ⊥) → region_unfinished ≡ form_refusal axes before late r
        unfolding form_refusal first_failed
        form-part p = rw (k, eq-eqb (first_wrong_byte r) 0 z, a, ne_eqb (before % axes) 0 p)

        pub form-set : before % axes ≡ 0 → 0 ≡ form_refusal axes before late r
        unfolding form_refusal first_failed
        form-set p = rw (k, eq-eqb (first_wrong_byte r) 0 z, a, eq-eqb (before % axes) 0 p)

-- a record whose form is right
pub record Formed (axes before : ℕ) (late : Bool) (r : List ℕ) : Type 0 where
  pub known : is_known r ≡ true
  pub zeros : first_wrong_byte r ≡ 0
  pub region-few : is_axis r ≡ true → region_number r < max_regions
  pub region-next : is_axis r ≡ true → region_number r ≡ before / axes
  pub axis-next : is_axis r ≡ true → axis_of r ≡ before % axes
  pub early : is_axis r ≡ true → late ≡ false
  pub whole : is_axis r ≡ false → before % axes ≡ 0

passed_then : (a b : Bool) → (not a || b) ≡ true → a ≡ true → b ≡ true
passed_then true b h e = h
passed_then false b h e = absurd (true-false e refl)

passed-else : (a b : Bool) → (a || b) ≡ true → a ≡ false → b ≡ true
passed-else false b h e = h
passed-else true b h e = absurd (true-false h e)

pub form-passed : (axes before : ℕ) (late : Bool) (r : List ℕ) → form_refusal axes before late r ≡ 0 → Formed axes before late r
unfolding form_refusal in_turn
form-passed axes before late r e =
    let next = eqb (region_number r) (before / axes) && eqb (axis_of r) (before % axes) in
    let turn = ltb (region_number r) max_regions && next in
    let t₅ : List (Bool × ℕ) = (is_axis r || eqb (before % axes) 0, region_unfinished) ∷ [] in
    let t₄ : List (Bool × ℕ) = (not (is_axis r) || not late, axis_too_late) ∷ t₅ in
    let t₃ : List (Bool × ℕ) = (not (is_axis r) || turn, axis_out_of_turn) ∷ t₄ in
    let t₂ : List (Bool × ℕ) = (eqb (first_wrong_byte r) 0, not_zero) ∷ t₃ in
    let a = first-passed (is_known r) 29 t₂ e in
    let b = first-passed (eqb (first_wrong_byte r) 0) 30 t₃ a.1 in
    let c = first-passed (not (is_axis r) || turn) 31 t₄ b.1 in
    let d = first-passed (not (is_axis r) || not late) 32 t₅ c.1 in
    let f = first-passed (is_axis r || eqb (before % axes) 0) 33 [] d.1 in
    let both : is_axis r ≡ true → (ltb (region_number r) max_regions ≡ true) × (next ≡ true) =
    λ x. and-true (ltb (region_number r) max_regions) next (passed_then (is_axis r) turn c.0 x) in
    let numbers : is_axis r ≡ true → (eqb (region_number r) (before / axes) ≡ true) × (eqb (axis_of r) (before % axes) ≡ true) =
    λ x. and-true (eqb (region_number r) (before / axes)) (eqb (axis_of r) (before % axes)) (both x).1 in
    record {
      known = a.0;
      zeros = eqb-true (first_wrong_byte r) 0 b.0;
      region-few = λ x. ltb-true (region_number r) max_regions (both x).0;
      region-next = λ x. eqb-true (region_number r) (before / axes) (numbers x).0;
      axis-next = λ x. eqb-true (axis_of r) (before % axes) (numbers x).1;
      early = λ x. not-true late (passed_then (is_axis r) (not late) d.0 x);
      whole = λ x. eqb-true (before % axes) 0 (passed-else (is_axis r) (eqb (before % axes) 0) f.0 x);
    }

-- ---- the byte

pub byte-none : (n : ℕ) (r : List ℕ) → (n ≡ not_zero → ⊥) → 0 ≡ byte_of n r
unfolding byte_of
byte-none n r d = rw (ne_eqb n not_zero d)

pub byte-wrong : (n : ℕ) (r : List ℕ) → n ≡ not_zero → first_wrong_byte r ≡ byte_of n r
unfolding byte_of
byte-wrong n r e = rw (eq-eqb n not_zero e)

-- ---- R9, R6, R7

module _ (mode sets : ℕ) where
  pub end-full : mode ≡ 1 → sets ≡ max_items → sets_full ≡ end_refusal mode sets
  unfolding end_refusal first_failed
  end-full m n = rw (eq-eqb mode 1 m, eq-eqb sets max_items n)

  pub end-few : mode ≡ 1 → (sets ≡ max_items → ⊥) → 0 ≡ end_refusal mode sets
  unfolding end_refusal first_failed
  end-few m n = rw (eq-eqb mode 1 m, ne_eqb sets max_items n)

  pub end-free : (mode ≡ 1 → ⊥) → 0 ≡ end_refusal mode sets
  unfolding end_refusal first_failed
  end-free m = rw (ne_eqb mode 1 m)

module _ (r : List ℕ) (regions : ℕ) (named : Bool) where
  pub value-unknown : regions ≤ region_number r → unknown_region ≡ value_no r regions named
  unfolding value_no first_failed
  value-unknown h = rw (le-ltb (region_number r) regions h)

  pub value-twice : region_number r < regions → named ≡ true → region_twice ≡ value_no r regions named
  unfolding value_no first_failed
  value-twice h n = rw (lt-ltb (region_number r) regions h, n)

  pub value-passed : region_number r < regions → named ≡ false → 0 ≡ value_no r regions named
  unfolding value_no first_failed
  value-passed h n = rw (lt-ltb (region_number r) regions h, n)
