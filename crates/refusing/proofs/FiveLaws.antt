-- R30 to R34 are together what was refused by 5 BAD_RECORD (specs/BadRecord.antt): of any record of any job, by their words; and so the walk stops by
-- one of the five exactly where it stopped by 5. Assumes nothing.
use mathlib.Core.Path.{◌≡◌, refl, sym, ap, subst, ◌∙◌}
use mathlib.Core.Bool.{true}
use mathlib.Core.List.{List, [], ◌∷◌, ◌++◌}
use mathlib.Core.Logic.{◌⊎◌, inl, inr, ⊎_elim}
use Prim.Native.Nat.{ℕ, zero, suc, ◌+◌, ◌-◌, ◌/◌, ◌%◌, ◌≤◌, ◌<◌}
use native.Mathlib.Omega.{arith}
use lib.ListN.{get_or}
use lib.Dec.{eqb}
use borrow.Author.Tests.{eq-eqb, ne_eqb, eqb-true}
use Rattle.laws.proofs.Cases.{lt-or-ge, same_or_not, or_left, or_right, or_cases, true-false}
use Rattle.limits.specs.Limits.{max_regions}
use Rattle.said.specs.Records.{kind, must_be_zero, first_wrong_byte, region_number, axis_of, record_at}
use Rattle.said.specs.Refusals.{not_zero, byte_of}
use Rattle.said.specs.Sets.{has}
use Rattle.said.specs.Job.{State, stop, step}
use Rattle.told.proofs.WordLaws.{count_most}
use Rattle.refusing.specs.Exactly.{Exactly}
use Rattle.refusing.specs.Counts.{axis_records, MustBeZero, AllZero, InTurn, OutOfTurn}
use Rattle.refusing.specs.BadRecord.{NotZero, BadRecord, OneOfFive, FineBefore}
use Rattle.refusing.specs.BadRecord.BadRecord.{unknown-kind, axis-zero, value-zero, end-zero, axis-order, axis-past, axis-late, in-region}
use Rattle.refusing.specs.BadRecord.OneOfFive.{by_kind, by_byte, by_turn, by-late, by-region}
use Rattle.refusing.specs.Fine.{Fine}
use Rattle.refusing.proofs.StateLaws.{Means}
use Rattle.refusing.proofs.ZeroLaws.{ZerosOf, zeros_of}
use Rattle.refusing.proofs.ZeroLaws.ZerosOf.{all-zero, not-zero}
use Rattle.refusing.proofs.RecordStops.{stops-unknown-kind, stops-not-zero, stops-out-of-turn, stops-too-late, stops-unfinished}

-- ---- bytes in a row

-- n of them from byte p on
unfoldable run : ℕ → ℕ → List ℕ
run p zero = []
run p (suc n) = p ∷ run (suc p) n

has-run : (p n b : ℕ) → p ≤ b → b < p + n → has b (run p n) ≡ true
unfolding has run
has-run p zero b l h = absurd (omega arith)
has-run p (suc n) b l h =
    ⊎_elim (λ (e : b ≡ p). or_left (eqb b p) (has b (run (suc p) n)) (eq-eqb b p e))
    (λ d. or_right (eqb b p) (has b (run (suc p) n)) (has-run (suc p) n b (omega arith) (omega arith)))
    (same_or_not b p)

run-has : (p n b : ℕ) → has b (run p n) ≡ true → (p ≤ b) × (b < p + n)
unfolding has run
run-has p zero b h = absurd (true-false h refl)
run-has p (suc n) b h =
    ⊎_elim (λ (e : eqb b p ≡ true). let z = eqb-true b p e in (omega arith, omega arith))
    (λ (e : has b (run (suc p) n) ≡ true). let z = run-has (suc p) n b e in let l = z.0 in let m = z.1 in (omega arith, omega arith))
    (or_cases (eqb b p) (has b (run (suc p) n)) h)

has_left : (b : ℕ) (k l : List ℕ) → has b k ≡ true → has b (k ++ l) ≡ true
unfolding has
has_left b [] l h = absurd (true-false h refl)
has_left b (x ∷ k) l h =
    ⊎_elim (λ (e : eqb b x ≡ true). or_left (eqb b x) (has b (k ++ l)) e) (λ (e : has b k ≡ true). or_right (eqb b x) (has b (k ++ l)) (has_left b k l e))
    (or_cases (eqb b x) (has b k) h)

has_right : (b : ℕ) (k l : List ℕ) → has b l ≡ true → has b (k ++ l) ≡ true
unfolding has
has_right b [] l h = h
has_right b (x ∷ k) l h = or_right (eqb b x) (has b (k ++ l)) (has_right b k l h)

has_either : (b : ℕ) (k l : List ℕ) → has b (k ++ l) ≡ true → (has b k ≡ true) ⊎ (has b l ≡ true)
unfolding has
has_either b [] l h = inr h
has_either b (x ∷ k) l h =
    ⊎_elim (λ (e : eqb b x ≡ true). inl (or_left (eqb b x) (has b k) e))
    (λ (e : has b (k ++ l) ≡ true). ⊎_elim (λ (f : has b k ≡ true). inl (or_right (eqb b x) (has b k) f)) inr (has_either b k l e))
    (or_cases (eqb b x) (has b (k ++ l)) h)

-- ---- the bytes that must be 0, as they stand in a row

module _ (r : List ℕ) where
  axis-must : kind r ≡ 1 → must_be_zero (kind r) ≡ run 10 2
  unfolding must_be_zero run
  axis-must k = rw (eq-eqb (kind r) 1 k)

  value-must : kind r ≡ 2 → must_be_zero (kind r) ≡ run 2 1 ++ run 8 4
  unfolding must_be_zero run
  value-must k = rw (ne_eqb (kind r) 1 (λ (e : kind r ≡ 1). omega arith), eq-eqb (kind r) 2 k)

  end-must : kind r ≡ 3 → must_be_zero (kind r) ≡ run 1 11
  unfolding must_be_zero run
  end-must k = rw (ne_eqb (kind r) 1 (λ (e : kind r ≡ 1). omega arith), ne_eqb (kind r) 2 (λ (e : kind r ≡ 2). omega arith), eq-eqb (kind r) 3 k)

  none-must : (kind r ≡ 1 → ⊥) → (kind r ≡ 2 → ⊥) → (kind r ≡ 3 → ⊥) → must_be_zero (kind r) ≡ []
  unfolding must_be_zero
  none-must a b c = rw (ne_eqb (kind r) 1 a, ne_eqb (kind r) 2 b, ne_eqb (kind r) 3 c)

  -- a byte that is not 0 in a row, and a row that has one
  in-run : (p n b : ℕ) → (get_or r b 0 ≡ 0 → ⊥) → has b (run p n) ≡ true → NotZero r p n
  in-run p n b d h =
      let z = run-has p n b h in
      let l = z.0 in
      let m = z.1 in
      let e : b ≡ p + (b - p) = omega arith in
      record { byte = b - p; within = omega arith; is-not = subst (λ (k : ℕ). get_or r k 0 ≡ 0 → ⊥) e d }

  in_two : (p n q m b : ℕ) → (get_or r b 0 ≡ 0 → ⊥) → has b (run p n ++ run q m) ≡ true → NotZero r p n ⊎ NotZero r q m
  in_two p n q m b d h =
      ⊎_elim (λ (e : has b (run p n) ≡ true). inl (in-run p n b d e)) (λ (e : has b (run q m) ≡ true). inr (in-run q m b d e))
      (has_either b (run p n) (run q m) h)

  run_in : (p n : ℕ) (z : NotZero r p n) → has (p + z.byte) (run p n) ≡ true
  run_in p n z = let h = z.within in has-run p n (p + z.byte) (omega arith) (omega arith)

-- ---- the rows

module _ (axes : ℕ) (job : List ℕ) (i : ℕ) (r : List ℕ) where
  abbrev Five : Type 0
  Five = OneOfFive axes job i r

  abbrev Bad : Type 0
  Bad = BadRecord axes job i r

  -- a byte that must be 0 and is not: there is a first one
  some_byte : (b : ℕ) → MustBeZero r b → (get_or r b 0 ≡ 0 → ⊥) → Five
  some_byte b h d = go (zeros_of r)
    where
      go : ZerosOf r → Five
      go (all-zero a z) = absurd (d (a b h))
      go (not-zero n s) = by_byte (first_wrong_byte r) n

  run-byte : (p n : ℕ) → ((b : ℕ) → has b (run p n) ≡ true → MustBeZero r b) → NotZero r p n → Five
  run-byte p n within z = some_byte (p + z.byte) (within (p + z.byte) (run_in r p n z)) z.is-not

  two-byte : (p n q m : ℕ) → must_be_zero (kind r) ≡ run p n ++ run q m → NotZero r p n ⊎ NotZero r q m → Five
  two-byte p n q m e z =
      ⊎_elim (λ (y : NotZero r p n). run-byte p n (λ b h. subst (λ (l : List ℕ). has b l ≡ true) (sym e) (has_left b (run p n) (run q m) h)) y)
      (λ (y : NotZero r q m). run-byte q m (λ b h. subst (λ (l : List ℕ). has b l ≡ true) (sym e) (has_right b (run p n) (run q m) h)) y) z

  -- by its byte, or else with its zeros
  byte_or : (AllZero r → Five) → Five
  byte_or f = go (zeros_of r)
    where
      go : ZerosOf r → Five
      go (all-zero a z) = f a
      go (not-zero n s) = by_byte (first_wrong_byte r) n

  -- an axis record with its zeros that is not in turn, or too late
  axis-five : kind r ≡ 1 → AllZero r → (InTurn axes job i r → axis_records job i < i) → Five
  axis-five k a f =
      ⊎_elim (λ (w : region_number r < max_regions).
      ⊎_elim (λ (e : region_number r ≡ axis_records job i / axes).
      ⊎_elim (λ (g : axis_of r ≡ axis_records job i % axes).
      let t : InTurn axes job i r = record { region-few = w; region-next = e; axis-next = g } in by-late (record { is-axis = k; all-zero = a; in-turn = t; late = f t }))
      (λ d. by_turn (record { is-axis = k; all-zero = a; other = λ t. d t.axis-next }))
      (same_or_not (axis_of r) (axis_records job i % axes)))
      (λ d. by_turn (record { is-axis = k; all-zero = a; other = λ t. d t.region-next }))
      (same_or_not (region_number r) (axis_records job i / axes)))
      (λ (h : max_regions ≤ region_number r). by_turn (record { is-axis = k; all-zero = a; other = λ t. let l = t.region-few in omega arith }))
      (lt-or-ge (region_number r) max_regions)

  -- not late: the axis records before it are all records before it
  all-or-late : (axis_records job i ≡ i) ⊎ (axis_records job i < i)
  all-or-late = let h = count_most 1 job i in ⊎_elim inr (λ l. inl (omega arith)) (lt-or-ge (axis_records job i) i)

  not-next : (region_number r ≡ i / axes → ⊥) ⊎ (axis_of r ≡ i % axes → ⊥) → InTurn axes job i r → axis_records job i < i
  not-next o t =
      ⊎_elim (λ (e : axis_records job i ≡ i).
      absurd (⊎_elim (λ (d : region_number r ≡ i / axes → ⊥). d (t.region-next ∙ ap (λ (n : ℕ). n / axes) e))
      (λ (d : axis_of r ≡ i % axes → ⊥). d (t.axis-next ∙ ap (λ (n : ℕ). n % axes) e)) o))
      (λ l. l) all-or-late

  bad-five : Bad → Five
  bad-five (unknown-kind a b c) = by_kind (record { no-axis = a; no_value = b; no_end = c })
  bad-five (axis-zero k z) = run-byte 10 2 (λ b h. subst (λ (l : List ℕ). has b l ≡ true) (sym (axis-must r k)) h) z
  bad-five (value-zero k z) = two-byte 2 1 8 4 (value-must r k) z
  bad-five (end-zero k z) = run-byte 1 11 (λ b h. subst (λ (l : List ℕ). has b l ≡ true) (sym (end-must r k)) h) z
  bad-five (axis-order k o) = byte_or (λ a. axis-five k a (not-next o))
  bad-five (axis-past k h) = byte_or (λ a. axis-five k a (λ t. let l = t.region-few in absurd (omega arith)))
  bad-five (axis-late k l) = byte_or (λ a. axis-five k a (λ t. l))
  bad-five (in-region v d) = byte_or (λ a. by-region (record { value-or-end = v; all-zero = a; in-region = d }))

  byte-bad : (b : ℕ) → MustBeZero r b → (get_or r b 0 ≡ 0 → ⊥) → Bad
  unfolding has
  byte-bad b h d =
      ⊎_elim (λ (k : kind r ≡ 1). axis-zero k (in-run r 10 2 b d (subst (λ (l : List ℕ). has b l ≡ true) (axis-must r k) h)))
      (λ x. ⊎_elim (λ (k : kind r ≡ 2). value-zero k (in_two r 2 1 8 4 b d (subst (λ (l : List ℕ). has b l ≡ true) (value-must r k) h)))
      (λ y. ⊎_elim (λ (k : kind r ≡ 3). end-zero k (in-run r 1 11 b d (subst (λ (l : List ℕ). has b l ≡ true) (end-must r k) h)))
      (λ z. absurd (true-false (subst (λ (l : List ℕ). has b l ≡ true) (none-must r x y z) h) refl))
      (same_or_not (kind r) 3))
      (same_or_not (kind r) 2))
      (same_or_not (kind r) 1)

  turn-bad : OutOfTurn axes job i r → Bad
  turn-bad o =
      ⊎_elim (λ (w : region_number r < max_regions).
      ⊎_elim (λ (e : axis_records job i ≡ i).
      ⊎_elim (λ (g : region_number r ≡ i / axes).
      axis-order o.is-axis (inr (λ h. o.other (record { region-few = w; region-next = g ∙ ap (λ (n : ℕ). n / axes) (sym e); axis-next = h ∙ ap (λ (n : ℕ). n % axes) (sym e) }))))
      (λ d. axis-order o.is-axis (inl d))
      (same_or_not (region_number r) (i / axes)))
      (λ l. axis-late o.is-axis l) all-or-late)
      (λ (h : max_regions ≤ region_number r). axis-past o.is-axis h)
      (lt-or-ge (region_number r) max_regions)

  five-bad : Five → Bad
  five-bad (by_kind u) = unknown-kind u.no-axis u.no_value u.no_end
  five-bad (by_byte b n) = byte-bad b n.must n.is-not
  five-bad (by_turn o) = turn-bad o
  five-bad (by-late l) = axis-late l.is-axis l.late
  five-bad (by-region u) = in-region u.value-or-end u.in-region

  -- THE LAW
  pub five-are : Exactly (BadRecord axes job i r) (OneOfFive axes job i r)
  five-are = record { given = five-bad; only = bad-five }

-- of a fine record none is true
pub fine-none : (axes mode : ℕ) (job : List ℕ) (i : ℕ) → Fine axes mode job i → OneOfFive axes job i (record_at job i) → ⊥
fine-none axes mode job i f (by_kind b) = f.kind-known b
fine-none axes mode job i f (by_byte k b) = f.zeros-zero k b
fine-none axes mode job i f (by_turn b) = f.not-out-of-turn b
fine-none axes mode job i f (by-late b) = f.not_late b
fine-none axes mode job i f (by-region b) = f.not-unfinished b

-- the same records are fine
pub fine-as-before : (axes mode : ℕ) (job : List ℕ) (i : ℕ) → Exactly (Fine axes mode job i) (FineBefore axes mode job i)
fine-as-before axes mode job i = record {
  given = λ f. record {
    kind-known = λ b. f.not-bad (bad (by_kind b));
    zeros-zero = λ k b. f.not-bad (bad (by_byte k b));
    not-out-of-turn = λ b. f.not-bad (bad (by_turn b));
    not_late = λ b. f.not-bad (bad (by-late b));
    not-unfinished = λ b. f.not-bad (bad (by-region b));
    not-unknown = f.not-unknown;
    not-twice = f.not-twice;
    not_full = f.not_full;
  };
  only = λ f. record {
    not-bad = λ b. fine-none axes mode job i f ((five-are axes job i (record_at job i)).only b);
    not-unknown = f.not-unknown;
    not-twice = f.not-twice;
    not_full = f.not_full;
  };
}
  where
    bad : OneOfFive axes job i (record_at job i) → BadRecord axes job i (record_at job i)
    bad = (five-are axes job i (record_at job i)).given

-- ---- where the walk stops

module _ (axes mode : ℕ) (job : List ℕ) (i : ℕ) (s : State) (m : Means axes job i s) where
  abbrev now : ℕ → Type 0
  now n = step axes mode job (record_at job i) i s ≡ stop n

  pub stops-one : (n : ℕ) → 30 ≤ n → n ≤ 34 → now n → OneOfFive axes job i (record_at job i)
  stops-one n low high f =
      ⊎_elim (λ (e : n ≡ 30). by_kind ((stops-unknown-kind axes mode job i s m).only (subst now e f)))
      (λ a. ⊎_elim (λ (e : n ≡ 31). by_byte (byte_of not_zero (record_at job i)) ((stops-not-zero axes mode job i s m (byte_of not_zero (record_at job i))).only (subst now e f, refl)))
      (λ b. ⊎_elim (λ (e : n ≡ 32). by_turn ((stops-out-of-turn axes mode job i s m).only (subst now e f)))
      (λ c. ⊎_elim (λ (e : n ≡ 33). by-late ((stops-too-late axes mode job i s m).only (subst now e f)))
      (λ d. let e : n ≡ 34 = omega arith in by-region ((stops-unfinished axes mode job i s m).only (subst now e f)))
      (same_or_not n 33))
      (same_or_not n 32))
      (same_or_not n 31))
      (same_or_not n 30)

  one-stops : OneOfFive axes job i (record_at job i) → (n : ℕ) × (30 ≤ n) × (n ≤ 34) × now n
  one-stops (by_kind u) = (30, omega arith, omega arith, (stops-unknown-kind axes mode job i s m).given u)
  one-stops (by_byte b n) = (31, omega arith, omega arith, ((stops-not-zero axes mode job i s m b).given n).0)
  one-stops (by_turn o) = (32, omega arith, omega arith, (stops-out-of-turn axes mode job i s m).given o)
  one-stops (by-late l) = (33, omega arith, omega arith, (stops-too-late axes mode job i s m).given l)
  one-stops (by-region u) = (34, omega arith, omega arith, (stops-unfinished axes mode job i s m).given u)

  -- THE LAW
  pub stops-five : Exactly ((n : ℕ) × (30 ≤ n) × (n ≤ 34) × now n) (BadRecord axes job i (record_at job i))
  stops-five = record {
    given = λ b. one-stops ((five-are axes job i (record_at job i)).only b);
    only = λ f. (five-are axes job i (record_at job i)).given (stops-one f.0 f.1 f.2 f.3);
  }
