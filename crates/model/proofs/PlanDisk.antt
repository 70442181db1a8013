-- What the plan for one wanted disk promises, over any edition of the array and of the call.
-- Assumes nothing.
use mathlib.Core.Path.{◌≡◌, refl, sym, ◌∙◌, ap, subst}
use mathlib.Core.Bool.{Bool, true, false}
use mathlib.Core.Logic.{◌↔◌}
use mathlib.Core.List.{List, [], ◌∷◌, ◌++◌}
use Prim.Native.Nat.{ℕ, zero, suc, ◌+◌, ◌*◌, ◌%◌, ◌≤◌, ◌<◌}
use native.Mathlib.Nat.{div_self, mod_self}
use native.Mathlib.Omega.{arith}
use borrow.Author.Tests.{eq-eqb, eqb-true, eqb-false, le-leb, leb-true, lt-ltb, ltb-true}
use lib.Dec.{eqb, leb, ltb}
use lib.ListN.{length, get_or}
use Rattle.stripes.specs.System.{Layout, whole, Bytes}
use Rattle.stripes.specs.Erased.{erasures}
use Rattle.stripes.specs.Repair.{Entry, repairs, after, residual, fatal, map_after, rebuilt}
use Rattle.stripes.specs.Wanted.{wanted_repairs, Reached, Wanted}
use Rattle.stripes.specs.Sectors.{sector_at}
use Rattle.model.specs.Grid.{disks, size_fits, sector_fits, sectors_fit, map_fits}
use Rattle.model.specs.Refusal.{refusal, array_tests, ◌unless◌}
use Rattle.model.specs.Array.{can_look}
use Rattle.model.specs.Sheet.{Format, narrow, sheet_of, sheet_bytes, sheets_of, repair_sheets}
use Rattle.model.specs.Chain.{clean_refusal, chain_entries}
use Rattle.model.specs.Plan.{plan_tests, one_tests, sheet_layout, loss_outcome, loss_sheets, plan_outcome, plan_sheets, outcome_status}
use Rattle.model.specs.PlanDisk.{can_be_wanted, plan_disk_tests, disk_outcome, disk_sheet, plan_disk_outcome, plan_disk_sheet, WantedList, DiskDemand}
use Rattle.model.specs.Tidy.{Tidy}
use Rattle.model.specs.Edition.{Edition, superparity}
use Rattle.model.specs.declared.Size.{Size}
use Rattle.model.specs.Outcome.{Refused}
use Rattle.stripes.proofs.Fold.{by_cases, and_left, and_right, and_both, every_at}
use Rattle.stripes.proofs.Erased.{is_erased}
use Rattle.stripes.proofs.Peel.{without_at, after_snoc, is_fatal, repairs_peels}
use Rattle.stripes.proofs.Degree.{two_ordered}
use Rattle.stripes.proofs.Restore.{restore, length-rebuilt}
use Rattle.stripes.proofs.Clears.{rest-clears}
use Rattle.stripes.proofs.Split.{erasures-after, residual-after}
use Rattle.stripes.proofs.Wanted.{reached_of, unreached_iff, wanted_is, wanted_unique}
use Rattle.stripes.proofs.Sectors.{one-sector}
use Rattle.stripes.proofs.Positions.{one_of, one-fatal}
use Rattle.model.proofs.Refusal.{given-accepted, given-refused, no_tests, passed, passes, fails, first-accepted, refused_first, array-fits, sector-accepted}
use Rattle.model.proofs.Losses.{Lawful, zero_six, planned}
use Rattle.model.proofs.Demand3.{superparity_lawful}
use Rattle.model.proofs.Accept.{one-fits, one_passed}
use Rattle.model.proofs.Grid.{layout-disks, block_fits_lem, one_byte}
use Rattle.model.proofs.Limits.{peels_fitting}
use Rattle.model.proofs.Chain.{written_chain}
use Rattle.model.proofs.Turns.{map_after-fits}
use Rattle.model.proofs.Tidy.{written-tidy}
use Rattle.model.proofs.Follow.{AsRebuild, follow_list}
use Rattle.model.proofs.Look.{look_takes}

-- Of one position there is one sheet.
one_sheet : (f : Format) (w : List Entry) → repair_sheets f 1 w ≡ sheet_of f f.repair_kind w
unfolding repair_sheets sheets_of
one_sheet f w = ap (sheet_of f f.repair_kind) (one_of w)

-- ---- over any edition of the array
module _ (E : Edition) (f : Format) (law : Lawful E f) (e : ℕ → Bool) (d : ℕ) where
  abbrev L : Layout
  L = E.layout

  abbrev w : List Entry
  w = wanted_repairs L e d

  -- It takes the disk away.
  present : Wanted L e d w → after e w d ≡ false
  present x =
      ap (λ (c : ℕ → Bool). c d) (ap (after e) x.ends ∙ after_snoc e x.before (record { disk = d; stripe = x.stripe }))
      ∙ without_at (after e x.before) d

  -- Where a list reaches the disk, it is as asked.
  list_is : Reached L e d → WantedList L e d w
  list_is reached =
      let x : Wanted L e d w = wanted_is L law.two e d reached in
      record {
        wanted = x;
        only = wanted_unique L law.two e d;
        present = present x;
        restored = λ y inside a b long word same.
            restore L y inside (two_ordered L law.two).bounded b word e a (long ∙ word.sized) w x.allowed_all same;
        same = residual-after L e w x.allowed_all;
        rest = λ fine. rest-clears L e fine w x.allowed_all;
      }

  pub edition_disk : d < L.disks → e d ≡ true
      → DiskDemand E f e d (loss_outcome 1 L e) (loss_sheets 1 L f e) (disk_outcome L e d) (disk_sheet L f e d)
  unfolding disk_outcome disk_sheet loss_outcome outcome_status residual wanted_repairs
  edition_disk l erased = go (residual L e d) refl
    where
      go : (b : Bool) → residual L e d ≡ b → DiskDemand E f e d (loss_outcome 1 L e) (loss_sheets 1 L f e) (disk_outcome L e d) (disk_sheet L f e d)
      go true q =
          let lossy : fatal L e ≡ true = (is_fatal L e).1 (d, l, q) in
          let six : outcome_status (loss_outcome 1 L e) ≡ 6 = rw (one-fatal L e, lossy) in
          rw q
          (record {
            plan = planned 1 E f law e;
            unreached = (λ s. (unreached_iff L d e erased).0 q, λ none. six);
            as_plan = λ s. (refl, refl);
            list = λ no. absurd (no six);
          })
      go false q =
          let reached : Reached L e d = reached_of L d (repairs L e) e (repairs_peels L e) erased q in
          let x : WantedList L e d w = list_is reached in
          let most = law.limited e w x.wanted.allowed_all in
          let room = law.limit_fits in
          rw q
          (record {
            plan = planned 1 E f law e;
            unreached = (λ s. absurd (zero_six s), λ none. absurd (none reached));
            as_plan = λ s. absurd (zero_six s);
            list = λ no. (w, refl, refl, omega (arith, most, room), most, x);
          })

-- ---- which arguments are taken

-- Plan itself tests the number of positions, besides: one is taken.
one_tests_lem : (z : Size) (m : List ℕ) (len : ℕ) → refusal (plan_tests z 1 m len) ≡ refusal (one_tests z m len)
unfolding plan_tests one_tests refusal sectors_fit
one_tests_lem z m len = refl

module _ (z : Size) (m : List ℕ) (len d : ℕ) where
  -- A disk can be wanted exactly if the grid has it and the map has its byte as 1.
  wanted-exact : (can_be_wanted z m d ≡ true) ↔ ((d < disks z) × (get_or m d 0 ≡ 1))
  unfolding can_be_wanted erasures
  wanted-exact = (
    λ h. (ltb-true d (disks z) (and_left (ltb d (disks z)) _ h), eqb-true (get_or m d 0) 1 (and_right (ltb d (disks z)) _ h)),
    λ (l, q). and_both (lt-ltb d (disks z) l) (eq-eqb (get_or m d 0) 1 q),
  )

  -- The tests are plan's for one position, and then 15.
  disk-passed : refusal (one_tests z m len) ≡ 0 → refusal (plan_disk_tests z m len d) ≡ refusal (15 unless can_be_wanted z m d ∷ [])
  unfolding plan_disk_tests
  disk-passed ok = one_passed z m len ok _

  -- So just these are taken: what plan takes, with a disk of the grid that the map has as erased.
  pub disk_takes : (refusal (plan_disk_tests z m len d) ≡ 0) ↔ ((refusal (one_tests z m len) ≡ 0) × (d < disks z) × (get_or m d 0 ≡ 1))
  unfolding plan_disk_tests
  disk_takes = (
    λ e.
        let ok = first-accepted (one_tests z m len) _ e in
        let (l, q) = wanted-exact.0 (passed 15 (can_be_wanted z m d) _ (omega arith) (sym (disk-passed ok) ∙ e)).0 in
        (ok, l, q),
    λ (ok, l, q). disk-passed ok ∙ passes 15 (can_be_wanted z m d) _ (wanted-exact.1 (l, q)) ∙ no_tests,
  )

  -- Another disk gets 15, whether the loss is fatal or not, and all that plan refuses before 6 is refused first.
  pub disk_fifteen : refusal (one_tests z m len) ≡ 0 → ((d < disks z) × (get_or m d 0 ≡ 1) → ⊥) → refusal (plan_disk_tests z m len d) ≡ 15
  disk_fifteen ok unfit =
      disk-passed ok
      ∙ fails 15 (can_be_wanted z m d) _
      (by_cases (λ (b : Bool). b ≡ false) (can_be_wanted z m d) (λ h. absurd (unfit (wanted-exact.0 h))) (λ h. refl))

  pub disk-first : (refusal (one_tests z m len) ≡ 0 → ⊥) → refusal (plan_disk_tests z m len d) ≡ refusal (one_tests z m len)
  unfolding plan_disk_tests
  disk-first = refused_first (one_tests z m len) _

-- A disk that a map has not as erased has the byte 0 there.
present-byte : (z : Size) (m : List ℕ) (d : ℕ) → map_fits (disks z) m ≡ true → d < disks z → erasures m d ≡ false → get_or m d 0 ≡ 0
unfolding map_fits erasures
present-byte z m d fits l h =
    let long = eqb-true (length m) (disks z) (and_left (eqb (length m) (disks z)) _ fits) in
    let bits = every_at (length m) (λ i. leb (get_or m i 0) 1) (and_right (eqb (length m) (disks z)) _ fits) d (omega arith) in
    let most = leb-true (get_or m d 0) 1 bits in
    let not = eqb-false (get_or m d 0) 1 h in
    lt-one (get_or m d 0) most not
  where
    lt-one : (n : ℕ) → n ≤ 1 → (n ≡ 1 → ⊥) → n ≡ 0
    lt-one zero l h = refl
    lt-one (suc zero) l h = absurd (h refl)
    lt-one (suc (suc n)) l h = omega arith

-- A block can be one sector.
one-fits-block : (B : ℕ) → 1 ≤ B → sector_fits B B ≡ true
unfolding sector_fits
one-fits-block B some = and_both (le-leb 1 B some) (eq-eqb (B % B) 0 (mod_self B))

-- ---- the call
module _ (z : Size) (m sheet : List ℕ) (d : ℕ) where
  -- A refusal by these tests changes nothing.
  pub disk_refused : (refusal (plan_disk_tests z m (length sheet) d) ≡ 0 → ⊥)
      → (plan_disk_outcome z m sheet d ≡ Refused (refusal (plan_disk_tests z m (length sheet) d))) × (plan_disk_sheet z m sheet d ≡ sheet)
  unfolding plan_disk_outcome plan_disk_sheet
  disk_refused unfit = (given-refused _ _ _ unfit, given-refused _ _ _ unfit)

  module _ (ok : refusal (plan_disk_tests z m (length sheet) d) ≡ 0) where
    pub disk_given : (plan_disk_outcome z m sheet d ≡ disk_outcome (sheet_layout z) (erasures m) d)
        × (plan_disk_sheet z m sheet d ≡ disk_sheet (sheet_layout z) narrow (erasures m) d)
    unfolding plan_disk_outcome plan_disk_sheet
    disk_given = (given-accepted _ _ _ ok, given-accepted _ _ _ ok)

    -- The promise in the paper's words, beside what plan gives for the same map.
    pub disk_demand : (other : List ℕ) → length other ≡ length sheet
        → DiskDemand (superparity z narrow.base) narrow (erasures m) d (plan_outcome z 1 m other) (plan_sheets z 1 m other)
        (plan_disk_outcome z m sheet d) (plan_disk_sheet z m sheet d)
    unfolding plan_outcome plan_sheets superparity
    disk_demand other long =
        let (first, l, q) = (disk_takes z m (length sheet) d).0 ok in
        let planned : refusal (plan_tests z 1 m (length other)) ≡ 0 = one_tests_lem z m (length other) ∙ (rw long) ∙ first in
        let (size, map, sized) = one-fits z m (length sheet) first in
        let (answer, left) = disk_given in
        rw (answer, left, planned)
        (edition_disk (superparity z narrow.base) narrow (superparity_lawful z size) (erasures m) d
        (let all = layout-disks z narrow.base in omega arith) (is_erased m d q))

    -- ---- where a list reaches the disk
    module _ (served : outcome_status (plan_disk_outcome z m sheet d) ≡ 0) where
      -- What its sheet lists.
      abbrev its : List Entry
      its = chain_entries narrow (plan_disk_sheet z m sheet d)

      its-size : size_fits z ≡ true
      its-size = (one-fits z m (length sheet) ((disk_takes z m (length sheet) d).0 ok).0).0

      -- Its sheet is tidy, 10, 13 and 14 let it through, and it lists what was asked for.
      disk-listed : Tidy narrow (plan_disk_sheet z m sheet d) × (clean_refusal narrow (plan_disk_sheet z m sheet d) ≡ 0)
          × WantedList (sheet_layout z) (erasures m) d its
      unfolding superparity
      disk-listed =
          let (w, answer, is, room, most, x) = (disk_demand sheet refl).list (λ six. zero_six (sym served ∙ six)) in
          let fits = peels_fitting z its-size (erasures m) w x.wanted.allowed_all in
          let (tidy, clean) = written-tidy narrow (omega arith) (omega arith) w fits in
          let lists : chain_entries narrow (sheet_of narrow 1 w) ≡ w = (written_chain narrow w (omega arith) fits).1 in (
            subst (Tidy narrow) (sym is) tidy,
            ap (clean_refusal narrow) is ∙ clean,
            subst (WantedList (sheet_layout z) (erasures m) d) (sym (ap (chain_entries narrow) is ∙ lists)) x,
          )

      pub disk-tidy : Tidy narrow (plan_disk_sheet z m sheet d) × (clean_refusal narrow (plan_disk_sheet z m sheet d) ≡ 0)
      disk-tidy = let (tidy, clean, x) = disk-listed in (tidy, clean)

      -- Its list and then plan's for what is left, in one sheet, are followed as rebuild would do with one sector a block, if the loss is not
      -- fatal.
      pub disk_followed : fatal (sheet_layout z) (erasures m) ≡ false
          → (B : ℕ) → 0 < B → (a other : List ℕ) → length other ≡ sheet_bytes narrow → Bytes a
          → AsRebuild z B B a m (sheet_of narrow narrow.repair_kind (its ++ repairs (sheet_layout z) (erasures (map_after m its)))) other
      disk_followed fine B some a other long small =
          let (tidy, clean, x) = disk-listed in
          let v : List Entry = its ++ repairs (sheet_layout z) (after (erasures m) its) in
          let one = div_self some in
          rw (erasures-after m its)
          (subst (λ (s : List ℕ). AsRebuild z B B a m s other) (ap (λ (n : ℕ). repair_sheets narrow n v) one ∙ one_sheet narrow v)
          (follow_list z its-size B B a m other (long ∙ (rw one)) small v (rw (one, one-sector) (x.rest fine))))

      -- Its repairs made, look hands the block of the disk out, where a block is one sector.
      pub disk_look : (B : ℕ) (a : List ℕ) → refusal (array_tests z B (length a)) ≡ 0
          → can_look z B B (rebuilt (sheet_layout z) (whole B) a its) (map_after m its) d ≡ true
      unfolding sector_at
      disk_look B a array =
          let (first, l, q) = (disk_takes z m (length sheet) d).0 ok in
          let (size, map, long) = one-fits z m (length sheet) first in
          let (tidy, clean, x) = disk-listed in
          let fits = array-fits z B (length a) array in
          let some = (block_fits_lem B fits.block).low in
          let kept = map_after-fits (disks z) m its map in
          (look_takes z B B (rebuilt (sheet_layout z) (whole B) a its) (map_after m its) d).1
          (rw (div_self some) (
            sector-accepted z B _ B (rw (length-rebuilt (sheet_layout z) (whole B) a its) fits) (one-fits-block B some),
            ap (λ (k : ℕ). map_fits k (map_after m its)) (one_byte z) ∙ kept,
            l,
            λ p place.
                let at : d * 1 + p ≡ d = omega arith in
                ap (λ (i : ℕ). get_or (map_after m its) i 0) at
                ∙ present-byte z (map_after m its) d kept l (ap (λ (e : ℕ → Bool). e d) (erasures-after m its) ∙ x.present),
          ))
