-- The records of the sets: one of them, and the loop over all. Assumes nothing.
use mathlib.Core.Path.{◌≡◌, refl, sym, ◌∙◌, subst}
use mathlib.Core.Bool.{true, false}
use mathlib.Core.List.{List, [], ◌∷◌}
use Prim.Native.Nat.{ℕ, ◌+◌, ◌*◌, ◌/◌, ◌%◌, ◌≤◌, ◌<◌}
use native.Mathlib.Omega.{arith}
use lib.ListN.{length}
use Rattle.std.specs.Prelude.{Result, Ok, Err}
use Rattle.refusals.specs.declared.Refusal.{Refusal}
use Rattle.refusals.specs.declared.Refusal.TheVariants.{Unfinished}
use Rattle.refusals.specs.Refusals.{number, number_in}
use Rattle.refusals.proofs.Numbers.{some_number}
use Rattle.laws.proofs.Cases.{true-false}
use Rattle.laws.specs.LentRange.{Only}
use Rattle.laws.proofs.RangeLaws.{only-refl, only-trans}
use Rattle.values.specs.declared.tables.SetTables.{SetTables}
use Rattle.values.specs.declared.values.Took.{Took}
use Rattle.said.specs.Records.{record_at, kind, value_kind, region_number, value_as_word}
use Rattle.said.specs.Refusals.{unfinished, form_refusal, end_refusal}
use Rattle.said.specs.Sets.{region_list, first_like}
use Rattle.said.specs.Job.{Said, in_sets, stop, on, unless, step, value_step, end_step, after_value, after_end, regions_only, refused, fine, ended, ended_sets}
use Rattle.values.proofs.BegunLaws.{begun-few}
use Rattle.values.specs.Lent.{Holds, TookValue, EndedSet}
use Rattle.job_scan.specs.declared.reading.SoFar.{SoFar}
use Rattle.job_scan.specs.Lent.{Room, RecordFits, is_open, Reached, RecordRead, SetsRead, left_behind, begun_at}
use Rattle.said.proofs.StepLaws.{unless-stop, unless-on, regions-from, form-stops, value-steps, end-steps}
use Rattle.job_scan.proofs.WalkLaws.{left, turn-stop, turn_on, at-end}

-- ---- one record

module _ (axes mode : ℕ) (job : List ℕ) (i from : ℕ) (t : SetTables) (s : Said) (f : SoFar) (w : List ℕ) (h : Reached axes from w t s f) where
  -- refused, and nothing is written
  stopped : (x : Refusal) → step axes mode job (record_at job i) i (in_sets s) ≡ stop (number x) → RecordRead axes mode job i from t s f w w (Err x)
  stopped x e = record { is = e; only = only-refl ((0, t.first) ∷ []) w }

  pub form-read : (x : Refusal) → number x ≡ form_refusal axes from true (record_at job i) → RecordRead axes mode job i from t s f w w (Err x)
  form-read x e = stopped x (form-stops axes mode job (record_at job i) i from s h.regions-from (number x) e (some_number x))

  module _ (z : form_refusal axes from true (record_at job i) ≡ 0) where
    module _ (k : kind (record_at job i) ≡ value_kind) (w' : List ℕ) (took : Result Took Refusal)
        (p : TookValue (record_at job i) t s f.sets f.uses f.start f.count w w' took) where
      is : step axes mode job (record_at job i) i (in_sets s)
          ≡ unless (number_in took) (on (in_sets (after_value s (first_like s.regions (region_number (record_at job i))) (value_as_word (record_at job i)))))
      unfolding value_step
      is = value-steps axes mode job (record_at job i) i from s h.regions-from z k ∙ rw (← p.number_is)

      pub value-refused : (x : Refusal) → took ≡ Err x → RecordRead axes mode job i from t s f w w' (Err x)
      value-refused x e = record { is = rw e at is ∙ unless-stop (number x) _ (some_number x); only = p.only }

      pub value_read : (g : Took) → took ≡ Ok g
          → RecordRead axes mode job i from t s f w w' (Ok (record { sets = f.sets; values = f.values + 1; uses = g.uses; start = f.start; count = g.count; begun = true }))
      unfolding after_value
      value_read g e = record {
        is = record {
          said = after_value s (first_like s.regions (region_number (record_at job i))) (value_as_word (record_at job i));
          is = rw e at is ∙ unless-on 0 _ refl;
          reached = record {
            held = rw e at p.now-holds;
            opened = refl;
            closed = λ e. absurd (true-false refl e);
            values-are = omega (arith, h.values-are);
            regions-from = h.regions-from;
          };
          one = omega arith;
          uses-few = let u = rw e at p.uses-few in omega (arith, u);
          body-few = let u = rw e at p.count-few in omega (arith, u);
        };
        only = p.only;
      }

    module _ (k : kind (record_at job i) ≡ value_kind → ⊥) (end' : Result (Unit {0}) Refusal) (e : number_in end' ≡ end_refusal mode f.sets) where
      ends : step axes mode job (record_at job i) i (in_sets s) ≡ unless (number_in end') (on (in_sets (after_end s)))
      unfolding end_step
      ends = end-steps axes mode job (record_at job i) i from s h.regions-from z k ∙ rw (h.held.sets-count, ← e)

      pub full-read : (x : Refusal) → end' ≡ Err x → RecordRead axes mode job i from t s f w w (Err x)
      full-read x y = stopped x (rw y at ends ∙ unless-stop (number x) _ (some_number x))

      pub end_read : (u : Unit {0}) → end' ≡ Ok u → (w' : List ℕ) → EndedSet t s f.sets f.uses f.start f.count w w'
          → RecordRead axes mode job i from t s f w w' (Ok (record { sets = f.sets + 1; values = f.values; uses = f.uses; start = f.start + 2 * f.count; count = 0; begun = false }))
      unfolding after_end
      end_read u y w' p = record {
        is = record {
          said = after_end s;
          is = rw y at ends ∙ unless-on 0 _ refl;
          reached = record { held = p.now-holds; opened = refl; closed = λ _. refl; values-are = h.values-are; regions-from = h.regions-from };
          one = omega arith;
          uses-few = omega arith;
          body-few = omega arith;
        };
        only = p.only;
      }

-- ---- the loop: record i is next, and work holds what the records before it say

pub record Stands (axes mode : ℕ) (job : List ℕ) (records from : ℕ) (t : SetTables) (old w : List ℕ) (i : ℕ) (f : SoFar) : Type 0 where
  pub said : Said
  pub reached : Reached axes from w t said f
  pub within : i ≤ records
  pub few : f.sets + f.values ≤ i
  pub uses-few : f.uses ≤ f.values
  pub body-few : f.start + 2 * f.count ≤ t.body + 2 * f.values
  pub only : Only ((0, t.first) ∷ []) old w
  pub rest : left axes mode job records i (in_sets said) ≡ left_behind axes mode job records from

module _ (axes mode : ℕ) (job : List ℕ) (records from : ℕ) (t : SetTables) (old : List ℕ) (room : Room t records (length old)) where
  pub stands-start : from ≤ records → from % axes ≡ 0 → Holds old t (regions_only (region_list axes (from / axes) job)) 0 0 t.body 0
      → (f : SoFar) → f ≡ begun_at t.body → Stands axes mode job records from t old old from f
  unfolding regions_only
  stands-start l z h f d = subst (λ (x : SoFar). Stands axes mode job records from t old old from x) (sym d) (record {
    said = regions_only (region_list axes (from / axes) job);
    reached = record { held = h; opened = refl; closed = λ _. refl; values-are = refl; regions-from = regions-from axes job from z };
    within = l;
    few = omega arith;
    uses-few = omega arith;
    body-few = omega arith;
    only = only-refl ((0, t.first) ∷ []) old;
    rest = refl;
  })

  module _ {w : List ℕ} {i : ℕ} {f : SoFar} (n : Stands axes mode job records from t old w i f) where
    pub record-fits : i < records → RecordFits w t f
    record-fits l = record {
      value-fits = record {
        firsts-low = n.reached.held.firsts-low;
        body-in = omega (arith, n.body-few, n.few, room.body-to);
        used-in = omega (arith, n.uses-few, n.few, room.used-to);
        slot-to = room.slot-to;
        stamp-to = omega (arith, room.spare-to);
        first_to = omega (arith, room.first_to, n.only.long);
        few = omega (arith, n.uses-few, n.few, room.few);
        regions-few = room.regions-few;
      };
      end_fits = record {
        row = omega (arith, n.few, room.rows-to);
        body-in = omega (arith, n.body-few, n.few, room.body-to);
        used-to = omega (arith, room.used-to);
        slot-to = room.slot-to;
        spare-to = omega (arith, room.spare-to, begun-few n.reached.held);
        first_to = omega (arith, room.first_to, n.only.long);
        body-low = n.reached.held.start-low;
        long-few = omega (arith, room.long-few, room.used-to, room.slot-to, room.spare-to);
      };
      few = omega (arith, n.few, room.few);
    }

    module _ (l : i < records) (w' : List ℕ) where
      pub stands-more : (g : SoFar) → RecordRead axes mode job i from t n.said f w w' (Ok g) → Stands axes mode job records from t old w' (i + 1) g
      stands-more r p =
          let g = p.is in
          record {
            said = g.said;
            reached = g.reached;
            within = omega arith;
            few = omega (arith, n.few, g.one);
            uses-few = omega (arith, n.uses-few, g.uses-few);
            body-few = omega (arith, n.body-few, g.body-few);
            only = only-trans n.only p.only;
            rest = sym (turn_on axes mode job records i l (in_sets n.said) (in_sets g.said) g.is) ∙ n.rest;
          }

      pub read-stopped : (x : Refusal) → RecordRead axes mode job i from t n.said f w w' (Err x)
          → SetsRead axes mode job records from t old w' (Err (record { refusal = x; place = i }))
      read-stopped x p = record {
        is = sym n.rest ∙ turn-stop axes mode job records i l (in_sets n.said) (number x) p.is;
        only = only-trans n.only p.only;
      }

  module _ {w : List ℕ} {i : ℕ} {f : SoFar} (m : Stands axes mode job records from t old w i f) (l : records ≤ i) where
    n : Stands axes mode job records from t old w records f
    n = let e : i ≡ records = omega (arith, m.within) in subst (λ (x : ℕ). Stands axes mode job records from t old w x f) e m

    ended-open : (q : List ℕ) → is_open q ≡ true → ended_sets records n.said q ≡ refused unfinished records
    unfolding ended_sets
    ended-open [] h = absurd (true-false h refl)
    ended-open (q ∷ r) h = refl

    ended-shut : (q : List ℕ) → is_open q ≡ false → ended_sets records n.said q ≡ fine n.said
    unfolding ended_sets
    ended-shut [] h = refl
    ended-shut (q ∷ r) h = absurd (true-false refl h)

    pub read-open : f.begun ≡ true → SetsRead axes mode job records from t old w (Err (record { refusal = Unfinished; place = records }))
    unfolding ended
    read-open d = record {
      is = sym n.rest ∙ at-end axes mode job records records (in_sets n.said) (omega arith) ∙ ended-open n.said.named (sym n.reached.opened ∙ d);
      only = n.only;
    }

    pub read-fine : f.begun ≡ false → SetsRead axes mode job records from t old w (Ok (record { sets = f.sets; values = f.values; uses = f.uses }))
    unfolding ended
    read-fine z = record {
      is = record {
        said = n.said;
        is = sym n.rest ∙ at-end axes mode job records records (in_sets n.said) (omega arith) ∙ ended-shut n.said.named (sym n.reached.opened ∙ z);
        values-are = n.reached.values-are;
        start = f.start;
        held = rw (← n.reached.closed z) n.reached.held;
        start-in = omega (arith, n.body-few, n.few, n.within, room.body-to);
        uses-few = omega (arith, n.uses-few, n.few, n.within);
      };
      only = n.only;
    }
