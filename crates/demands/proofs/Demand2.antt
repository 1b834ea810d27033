-- D2 (specs/Demand2.antt): what lies in the lent memory after a done build is read by the definition of the row reader.
-- Assumes nothing.
use mathlib.Core.Path.{◌≡◌, sym, ap, subst, ◌∙◌}
use mathlib.Core.Logic.{◌⊎◌}
use mathlib.Core.List.{List, []}
use Prim.Native.Nat.{ℕ, ◌+◌, ◌*◌, ◌/◌, ◌≤◌, ◌<◌}
use native.Mathlib.Omega.{arith}
use lib.Dec.{eqb}
use lib.ListN.{length, get_or, take, drop}
use Rattle.laws.specs.Pick.{pick}
use Rattle.laws.specs.Signed.{value, zero_word}
use Rattle.laws.proofs.Cases.{Which, which}
use Rattle.laws.proofs.Cases.Which.{holds, fails}
use Rattle.sets.specs.Set.{Set, word_of}
use Rattle.groups.specs.Groups.{groups_of, max_shapes}
use Rattle.reader.specs.Store.{Written, NoColumn, read_store, value_of, list_at, region_count}
use Rattle.store.specs.Placing.{all_runs, id_words, names, kept_of, new_index, stored}
use Rattle.said.specs.Records.{record_bytes}
use Rattle.said.specs.Job.{Said}
use Rattle.said.proofs.SoundLaws.{Bytes}
use Rattle.encoder.specs.Packed.{Packed, shared, own}
use Rattle.finishing.specs.declared.answers.Report.{Report}
use Rattle.finishing.specs.Answers.{Done}
use Rattle.said.specs.Refusals.{most_bytes}
use Rattle.finishing.specs.Late.{store_for}
use Rattle.call.specs.Lending.{Lending}
use Rattle.call.specs.Build.{coords_in_use, packed_of, answer_of, after}
use Rattle.accepted.proofs.RowsBack.{RowOf, Listed}
use Rattle.accepted.proofs.ReadBack.{Sized, GivesBack, shared_back, own_back}
use Rattle.accepted.proofs.Accepted.{Accepted, accepted, accepted-sized, coords-once, map_is, store-front, id-at}
use Rattle.accepted.proofs.PastLaws.{ids-long}
use Rattle.demands.specs.Demand2.{RegionBack, InList, SetBack, Demand2}

-- ---- what a set's row in a store gives back

module _ (axes regions : ℕ) (coords : List (List ℕ)) (jobs : List Set) (k : Packed) (long : length coords ≡ regions) (b : GivesBack axes regions coords jobs k)
    (once : (x y : ℕ) → x < length coords → y < length coords → get_or coords x [] ≡ get_or coords y [] → x ≡ y)
    (n : ℕ) (h : n < length jobs) (m : List ℕ) (fits : length k.sets ≤ length m) where
  abbrev S : List ℕ
  S = store_for axes coords k

  abbrev id : ℕ
  id = get_or k.ids n 0

  abbrev set_is : get_or k.sets id [] ≡ get_or jobs n []
  set_is = (b.ids n h).is

  abbrev row : RowOf axes regions coords k m id
  row = b.reads.rows m fits id (b.ids n h).below

  module _ (q : ℕ) (l : q < region_count S) where
    abbrev kept : q < length (kept_of regions k.finals)
    kept = omega (arith, b.list.count-is)

    abbrev from : Listed regions k.finals q
    from = b.reads.listed q kept

    abbrev Answers : ℕ → Set → Type 0
    Answers i s = (read_store S row.outer row.inner i ≡ Written (value (word_of s from.region))) ⊎ (read_store S row.outer row.inner i ≡ NoColumn)

    abbrev Back : ℕ → Set → Type 0
    Back i s = value_of (read_store S row.outer row.inner i) ≡ value (word_of s from.region)

    coords-at : take (6 * axes) (drop (list_at S + 4 + 6 * axes * q) S) ≡ get_or coords from.region []
    coords-at = b.list.coordinates q kept ∙ ap (λ (r : ℕ). get_or coords r []) from.is

    region-back : RegionBack axes coords (get_or jobs n []) S row.outer row.inner q
    region-back = record {
      region = from.region;
      below = omega (arith, from.below);
      coordinates = coords-at;
      only = λ p l e. once p from.region l (omega (arith, from.below)) (sym e ∙ coords-at);
      answers =
          subst (λ (s : Set). Answers q s) set_is
          (subst (λ (i : ℕ). Answers i (get_or k.sets id [])) from.numbered (row.answers from.region from.below from.named));
      gives_back =
          subst (λ (s : Set). Back q s) set_is
          (subst (λ (i : ℕ). Back i (get_or k.sets id [])) from.numbered (row.gives_back from.region from.below from.named));
    }

  listed_at : (r : ℕ) → r < length coords → (word_of (get_or jobs n []) r ≡ zero_word → ⊥) → InList axes coords S r
  listed_at r l d = go (which (names r k.finals))
    where
      go : Which (names r k.finals) → InList axes coords S r
      go (fails f) = absurd (d (ap (λ (s : Set). word_of s r) (sym set_is) ∙ row.not_listed r f))
      go (holds t) =
          let a = b.reads.kept r (omega arith) t in
          record {
            index = new_index k.finals r;
            below = omega (arith, a.0, b.list.count-is);
            coordinates = b.list.coordinates (new_index k.finals r) a.0 ∙ ap (λ (i : ℕ). get_or coords i []) a.1;
          }

  set_back : SetBack axes coords (get_or jobs n []) S (get_or (stored (id_words 0 (all_runs k.finals)) m) id 0)
  set_back = record {
    outer = row.outer;
    inner = row.inner;
    outer_below = row.outer_below;
    inner_below = row.inner_below;
    word-is = row.word-is;
    regions = λ q l. region-back q (omega arith);
    in_list = listed_at;
  }

-- ---- both modes

module _ (mode : ℕ) (s : Said) where
  shared-groups : (n : ℕ) (all : List Set) → (shared n all).groups ≤ 1024 → length (groups_of n all) ≤ 1024
  unfolding shared
  shared-groups n all h = h

  packed-back : (axes : ℕ) → Sized axes (length s.used) (coords_in_use s) s.sets → (packed_of mode s).groups ≤ max_shapes
      → length (store_for axes (coords_in_use s) (packed_of mode s)) ≤ most_bytes → GivesBack axes (length s.used) (coords_in_use s) s.sets (packed_of mode s)
  unfolding packed_of
  packed-back axes z h short = go (which (eqb mode 0)) h short
    where
      go : Which (eqb mode 0) → (pick (eqb mode 0) (shared (length s.used) s.sets) (own (length s.used) s.sets)).groups ≤ 1024
          → length (store_for axes (coords_in_use s) (pick (eqb mode 0) (shared (length s.used) s.sets) (own (length s.used) s.sets))) ≤ most_bytes
          → GivesBack axes (length s.used) (coords_in_use s) s.sets (pick (eqb mode 0) (shared (length s.used) s.sets) (own (length s.used) s.sets))
      go (holds e) h b = rw e (shared_back axes (length s.used) (coords_in_use s) s.sets z (shared-groups (length s.used) s.sets (rw e at h)) (rw e at b))
      go (fails e) h b = rw e (own_back axes (length s.used) (coords_in_use s) s.sets z (rw e at b))

-- THE LAW
pub demand2 : (c : Lending) (r : Report) → Bytes c.job → answer_of c ≡ Done r → Demand2 c r
demand2 c r bytes e =
    record {
      said = s;
      said-is = a.said-is;
      sets-back = λ n h.
          subst (λ (w : ℕ). SetBack c.axes coords (get_or s.sets n []) (take r.bytes (after c).lent.out) w)
          (sym (ap (λ (m : List ℕ). get_or m (get_or (after c).lent.ids n 0) 0) (map_is c r a)
          ∙ ap (λ (i : ℕ). get_or (stored (id_words 0 (all_runs k.finals)) c.lent.map) i 0) (id-here n h)))
          (subst (λ (t : List ℕ). SetBack c.axes coords (get_or s.sets n []) t (get_or (stored (id_words 0 (all_runs k.finals)) c.lent.map) (get_or k.ids n 0) 0))
          (sym (store-front c r a))
          (set_back c.axes (length s.used) coords s.sets k size.coords-are back once n h c.lent.map (omega (arith, a.room.map-fits))));
    }
  where
    a : Accepted c r
    a = accepted c r e

    s : Said
    s = a.said

    k : Packed
    k = packed_of c.mode s

    coords : List (List ℕ)
    coords = coords_in_use s

    size : Sized c.axes (length s.used) coords s.sets
    size = accepted-sized c r a bytes

    once : (x y : ℕ) → x < length coords → y < length coords → get_or coords x [] ≡ get_or coords y [] → x ≡ y
    once = coords-once c.axes c.mode c.job (length c.job / record_bytes) s a.walked a.entered.some bytes

    back : GivesBack c.axes (length s.used) coords s.sets k
    back = packed-back c.mode s c.axes size a.room.shapes-few a.room.bytes-few

    id-here : (n : ℕ) → n < length s.sets → get_or (after c).lent.ids n 0 ≡ get_or k.ids n 0
    id-here n h = id-at c r a n (omega (arith, ids-long c.mode s))
