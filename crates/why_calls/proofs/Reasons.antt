-- The reason that a taken call of `ivs_why` tells is true, by final groups and by the map that is left (specs/WhyTaken.antt). Assumes nothing.
use mathlib.Core.Path.{◌≡◌, refl, sym, ap, ap₂, subst, ◌∙◌}
use mathlib.Core.List.{List}
use mathlib.Core.Logic.{inl, inr}
use Prim.Native.Nat.{ℕ, ◌+◌, ◌≤◌, ◌<◌}
use native.Mathlib.Omega.{arith}
use lib.IntN.{sub_ℕ}
use lib.ListN.{length}
use Rattle.laws.specs.Signed.{signed}
use Rattle.shapes.specs.Group.{group_cost, joined}
use Rattle.store.specs.Placing.{Final, all_runs, id_words, stored}
use Rattle.said.specs.Job.{Said, Outcome, fine}
use Rattle.said.proofs.SoundLaws.{Bytes}
use Rattle.encoder.specs.Packed.{Packed}
use Rattle.sets.proofs.IdLaws.{distinct-most}
use Rattle.call.specs.Lending.{Lending, Left}
use Rattle.call.specs.Build.{packed_of, outcome_of, after}
use Rattle.accepted.proofs.RunSound.{ids-once}
use Rattle.accepted.proofs.Accepted.{accepted, map_is, shared-is, sets-are}
use Rattle.reasons.specs.declared.reason.Reason.{Reason}
use Rattle.reasons.specs.declared.reason.Reason.TheVariants as reason
use Rattle.reasons.specs.Why.{home_in, counted, why_of}
use Rattle.looking.specs.Look.{why_from}
use Rattle.looking.proofs.LookLaws.{packed-both}
use Rattle.reporting.specs.Answers.{filled}
use Rattle.why_words.specs.Answers.{Why}
use Rattle.why_words.specs.Explained.{because}
use Rattle.why_words.specs.WhyWords.{cost_limit, gain_as_word, reason_words, why_report}
use Rattle.ivs.specs.Asked.{WhyAnswered}
use Rattle.why_told.specs.WhyTold.{home_of, InOneRun, InTwoRuns, InTwoGroups}
use Rattle.why_told.proofs.Exactly.{Says, why-true}
use Rattle.why_told.proofs.NoGains.{told-no-gain}
use Rattle.why_calls.specs.WhyTaken.{reason_told, first_told, second_told, joined_told, gain_told, ReasonTrue, outer_of, WhyTaken}
use Rattle.why_calls.proofs.Taken.{Taken, why-fine, said_in, packed-here, shapes-few, count-is, sized-is, good-is}
use Rattle.why_calls.proofs.RunPlaces.{home-in, one-outer, outer_one}
use Rattle.why_calls.proofs.Reports.{filled-all, gain-signed}
use Rattle.why_calls.proofs.Costs.{cost-few, joined-few}

-- ---- what each reason tells

-- of two ids that have rows, what their groups cost is low, and joining them gains nothing
record Known (gs : List Final) (a b : ℕ) : Type 0 where
  first-there : home_in a gs < length gs
  second-there : home_in b gs < length gs
  first-low : group_cost (counted (home_of gs a)) < cost_limit
  second-low : group_cost (counted (home_of gs b)) < cost_limit
  joined-low : group_cost (joined (counted (home_of gs a)) (counted (home_of gs b))) < cost_limit
  none-gained : (x y z : ℕ) → InTwoGroups gs a b x y z → x + y ≤ z

module _ (gs : List Final) (a b : ℕ) (k : Known gs a b) (report : List ℕ) where
  tells-one : report ≡ reason_words 1 0 0 0 0 → InOneRun gs a b → ReasonTrue gs a b report
  unfolding reason_words
  tells-one e s =
      let t : reason_told report ≡ 1 = ap reason_told e in
      record {
        first-there = k.first-there;
        second-there = k.second-there;
        told = inl t;
        same = record { given = λ h. t; only = λ h. s };
        cut = record { given = λ h. absurd (h.two_runs s.one-run); only = λ h. absurd (omega arith) };
        apart = record { given = λ d. absurd (d s.one-group); only = λ h. absurd (omega arith) };
        costs = λ h. absurd (omega arith);
        gain = λ h. absurd (omega arith);
        no-gain = λ h. absurd (omega arith);
      }

  tells-two : report ≡ reason_words 2 0 0 0 0 → InTwoRuns gs a b → ReasonTrue gs a b report
  unfolding reason_words
  tells-two e s =
      let t : reason_told report ≡ 2 = ap reason_told e in
      record {
        first-there = k.first-there;
        second-there = k.second-there;
        told = inr (inl t);
        same = record { given = λ h. absurd (s.two_runs h.one-run); only = λ h. absurd (omega arith) };
        cut = record { given = λ h. t; only = λ h. s };
        apart = record { given = λ d. absurd (d s.one-group); only = λ h. absurd (omega arith) };
        costs = λ h. absurd (omega arith);
        gain = λ h. absurd (omega arith);
        no-gain = λ h. absurd (omega arith);
      }

  tells-three : (x y z : ℕ) → report ≡ reason_words 3 x y z (gain_as_word x y z) → InTwoGroups gs a b x y z → ReasonTrue gs a b report
  unfolding reason_words
  tells-three x y z e s =
      let t : reason_told report ≡ 3 = ap reason_told e in
      let f : first_told report ≡ x = ap first_told e in
      let g : second_told report ≡ y = ap second_told e in
      let j : joined_told report ≡ z = ap joined_told e in
      let w : gain_told report ≡ gain_as_word x y z = ap gain_told e in
      let n : x + y ≤ z = k.none-gained x y z s in
      record {
        first-there = k.first-there;
        second-there = k.second-there;
        told = inr (inr t);
        same = record { given = λ h. absurd (s.two-groups h.one-group); only = λ h. absurd (omega arith) };
        cut = record { given = λ h. absurd (s.two-groups h.one-group); only = λ h. absurd (omega arith) };
        apart = record { given = λ d. t; only = λ h. s.two-groups };
        costs = λ h. record { two-groups = s.two-groups; first-cost = f ∙ s.first-cost; second-cost = g ∙ s.second-cost; joined-cost = j ∙ s.joined-cost };
        gain = λ h.
            ap (signed 8) w
            ∙ gain-signed x y z (omega (arith, s.first-cost, k.first-low)) (omega (arith, s.second-cost, k.second-low)) n (omega (arith, s.joined-cost, k.joined-low))
            ∙ sym (ap₂ sub_ℕ (ap₂ ◌+◌ f g) j);
        no-gain = λ h. omega (arith, n, f, g, j);
      }

  tells : (job : List ℕ) (r : Reason) → report ≡ why_report job (because r) → Says gs a b r → ReasonTrue gs a b report
  unfolding why_report because
  tells job reason.None e s = absurd s
  tells job reason.Same e s = tells-one e s
  tells job reason.CutApart e s = tells-two e s
  tells job (reason.NeverJoined x y z) e s = tells-three x y z e s

-- ---- of a call

words_long : (job : List ℕ) (gs : List Final) (a b : ℕ) → length (why_report job (because (why_of gs a b))) ≡ 16
unfolding why_report because reason_words
words_long job gs a b = go (why_of gs a b) (why-true gs a b)
  where
    go : (r : Reason) → Says gs a b r → length (why_report job (because r)) ≡ 16
    go reason.None s = absurd s
    go reason.Same s = refl
    go reason.CutApart s = refl
    go (reason.NeverJoined x y z) s = refl

module _ {c : Lending} {store : List ℕ} {a b : ℕ} {l : Left} (t : Taken c store a b l) (m : c.mode ≡ 0) where
  said-is : outcome_of c ≡ fine (said_in t m)
  said-is = (accepted c t.report t.done).said-is

  first-in : a < length (packed_of 0 (said_in t m)).sets
  first-in = omega (arith, count-is t m, t.first_below)

  second-in : b < length (packed_of 0 (said_in t m)).sets
  second-in = omega (arith, count-is t m, t.second_below)

  reason-is : why_from (outcome_of c) a b ≡ why_of (packed_of 0 (said_in t m)).finals a b
  unfolding why_from
  reason-is = ap (λ (o : Outcome). why_from o a b) said-is ∙ sym (packed-both (packed_of 0 (said_in t m)) a b (shapes-few t m) first-in second-in)

module _ {c : Lending} {store : List ℕ} {a b : ℕ} {l : Left} (t : Taken c store a b l) (m : c.mode ≡ 0) (bytes : Bytes c.job) (map-left : l.lent.map ≡ (after c).lent.map) where
  abbrev s : Said
  s = said_in t m

  abbrev k : Packed
  k = packed_of 0 s

  abbrev gs : List Final
  gs = (packed_of 0 (said_in t m)).finals

  home : (x : ℕ) → x < length (packed_of 0 (said_in t m)).sets → home_in x (packed_of 0 (said_in t m)).finals < length (packed_of 0 (said_in t m)).finals
  home x h = home-in x gs ((good-is t m bytes).each x h)

  sets-few : length (packed_of 0 (said_in t m)).sets ≤ 1048576
  sets-few = omega (arith, ap length (sets-are s), distinct-most s.sets, (sized-is t m bytes).sets-few)

  known : Known (packed_of 0 (said_in t m)).finals a b
  known =
      let n = length s.used in
      let g = good-is t m bytes in
      let r : n ≤ 65536 = omega (arith, (sized-is t m bytes).regions-few) in
      let p = home a (first-in t m) in
      let q = home b (second-in t m) in
      record {
        first-there = p;
        second-there = q;
        first-low = cost-few n k g r sets-few (home_in a gs) p;
        second-low = cost-few n k g r sets-few (home_in b gs) q;
        joined-low = joined-few n k g r sets-few (home_in a gs) (home_in b gs) p q;
        none-gained = subst (λ (x : Packed). home_in a x.finals < length x.finals → home_in b x.finals < length x.finals
            → (u v w : ℕ) → InTwoGroups x.finals a b u v w → u + v ≤ w) (sym (shared-is s))
            (λ h i u v w. told-no-gain n s.sets a b u v w h i) p q;
      }

  module _ (report : List ℕ) (e : report ≡ why_report c.job (because (why_of (packed_of 0 (said_in t m)).finals a b))) where
    true-told : ReasonTrue (packed_of 0 (said_in t m)).finals a b report
    true-told = tells gs a b known report c.job (why_of gs a b) e (why-true gs a b)

    map-here : l.lent.map ≡ stored (id_words 0 (all_runs (packed_of 0 (said_in t m)).finals)) c.lent.map
    map-here =
        map-left ∙ map_is c t.report (accepted c t.report t.done)
        ∙ ap (λ (x : Packed). stored (id_words 0 (all_runs x.finals)) c.lent.map) (packed-here t m)

    room : length (packed_of 0 (said_in t m)).sets ≤ length c.lent.map
    room = subst (λ (x : Packed). length x.sets ≤ length c.lent.map) (packed-here t m) (accepted c t.report t.done).room.map-fits

    taken-told : WhyTaken c a b l report
    taken-told =
        let once = ids-once (length s.used) k (good-is t m bytes) in
        let p : a < length c.lent.map = omega (arith, room, first-in t m) in
        let q : b < length c.lent.map = omega (arith, room, second-in t m) in
        let i = home a (first-in t m) in
        let j = home b (second-in t m) in
        record {
          said = s;
          said-is = said-is t m;
          reason-true = true-told;
          one_table = record {
            given = λ h. true-told.same.given (outer_one gs c.lent.map once a b i j p q (subst (λ (x : List ℕ). outer_of x a ≡ outer_of x b) map-here h));
            only = λ h. subst (λ (x : List ℕ). outer_of x a ≡ outer_of x b) (sym map-here) (one-outer gs c.lent.map once a b i j p q (true-told.same.only h));
          };
        }

-- THE LAW: a call of `ivs_why` in mode 0, with a report of sixteen words, that answers 0
pub why-call : (c : Lending) (store : List ℕ) (a b n : ℕ) (l : Left) (old report : List ℕ) → c.mode ≡ 0 → Bytes c.job → length old ≡ 16
    → WhyAnswered c store a b n l old report → n ≡ 0 → WhyTaken c a b l report
why-call c store a b n l old report m bytes long w z =
    let f = why-fine c store a b l w.answer w.obeys.answer (why_from (outcome_of c) a b) (sym w.number_is ∙ z) in
    let t = f.0 in
    let e : report ≡ filled 0 (why_report c.job (because (why_of (packed_of 0 (said_in t m)).finals a b))) old =
    w.report-is ∙ ap (λ (x : Why). filled 0 (why_report c.job x) old) (f.1 ∙ ap because (reason-is t m)) in
    taken-told t m bytes (ap (λ (x : Left). x.lent.map) w.obeys.left) report
    (e ∙ filled-all (why_report c.job (because (why_of (packed_of 0 (said_in t m)).finals a b))) old (long ∙ sym (words_long c.job (packed_of 0 (said_in t m)).finals a b)))
