-- Blocks without sectors: what plan, rebuild, follow, save and look do where each block is a single sector, in the words of paper 01 and of
-- paper 02's requests before P6. The crate demands promises of the calls that they do so; and of plan, that each position is planned as if it
-- were alone.
-- Assumes nothing.
use Rattle.std.specs.Prelude.{◌≡◌, Bool, cond, ◌&&◌, List, [], ◌∷◌, ◌++◌, ℕ, ◌<◌, eqb, ltb, length, get_or, take}
use Rattle.stripes.specs.Fold.{count}
use Rattle.stripes.specs.System.{Layout, whole}
use Rattle.stripes.specs.Erased.{erasures}
use Rattle.stripes.specs.Repair.{Entry, repairs, fatal, map_after, rebuilt, zeroed}
use Rattle.stripes.specs.Undetermined.{lost, determined, parts_cancel, saved}
use Rattle.stripes.specs.Smallest.{shown_cycle}
use Rattle.stripes.specs.Sectors.{at_position}
use Rattle.stripes.specs.declared.Stretch.{Stretch}
use Rattle.model.specs.Grid.{layout_of, column_base, disks, size_fits, map_fits}
use Rattle.model.specs.Refusal.{Test, ◌unless◌, refusal, array_tests}
use Rattle.model.specs.Sheet.{Format, narrow, sheet_bytes, sheet_of, blank_sheet, sheet_at}
use Rattle.model.specs.Chain.{clean_tests, chain_entries}
use Rattle.model.specs.Plan.{sheet_layout, outcome_status}
use Rattle.model.specs.Turn.{Turn, contradicts}
use Rattle.model.specs.Follow.{list_tests, list_outcome, list_array}
use Rattle.model.specs.declared.Size.{Size}
use Rattle.model.specs.Outcome.{Outcome}
use Rattle.model.specs.Outcome.{Repairs, Fatal, Refused}
use Rattle.model.specs.Saving.{Saving}
use Rattle.model.specs.Saving.{Saved, Refused as Saving-as-Refused}

-- The tests of a map with a byte for each disk, and of one sheet.
unfoldable pub whole_tests : Size → List ℕ → (len : ℕ) → List Test
whole_tests z m len = 4 unless map_fits (disks z) m ∷ 5 unless eqb len (sheet_bytes narrow) ∷ []

-- What the loss of the disks e comes to, and the sheet that says so.
unfoldable pub whole_outcome : Layout → (e : ℕ → Bool) → Outcome
whole_outcome L e = cond (fatal L e) (Fatal (lost L e) 0) (Repairs (length (repairs L e)))

unfoldable pub whole_sheet : Layout → Format → (e : ℕ → Bool) → List ℕ
whole_sheet L f e = cond (fatal L e) (sheet_of f f.loop_kind (shown_cycle L e)) (sheet_of f f.repair_kind (repairs L e))

-- Plan.
unfoldable pub plan_whole : Size → (m sheet : List ℕ) → Outcome
plan_whole z m s =
    let k : ℕ = refusal (1 unless size_fits z ∷ whole_tests z m (length s)) in
    cond (eqb k 0) (whole_outcome (sheet_layout z) (erasures m)) (Refused k)

unfoldable pub plan_whole_sheet : Size → (m sheet : List ℕ) → List ℕ
plan_whole_sheet z m s =
    cond (eqb (refusal (1 unless size_fits z ∷ whole_tests z m (length s))) 0) (whole_sheet (sheet_layout z) narrow (erasures m)) s

-- Rebuild: a turn of at most k repairs.
unfoldable pub whole_turn : Layout → Format → Stretch → (k : ℕ) → (a m : List ℕ) → Turn
whole_turn L f x k a m =
    let w : List Entry = take k (repairs L (erasures m)) in
    cond (fatal L (erasures m)) (record { answer = whole_outcome L (erasures m); array = a; map = m; sheets = whole_sheet L f (erasures m) })
    (cond (contradicts L x a m w) (record { answer = Refused 7; array = zeroed x a (erasures m); map = m; sheets = blank_sheet f })
    (record { answer = Repairs (length w); array = rebuilt L x a w; map = map_after m w; sheets = sheet_of f f.repair_kind w }))

unfoldable pub rebuild_whole : Size → ℕ → (a m sheet : List ℕ) → (k : ℕ) → Turn
rebuild_whole z B a m s k =
    let r : ℕ = refusal (array_tests z B (length a) ++ (whole_tests z m (length s) ++ (12 unless ltb 0 k ∷ []))) in
    cond (eqb r 0) (whole_turn (sheet_layout z) narrow (whole B) k a m) (record { answer = Refused r; array = a; map = m; sheets = s })

-- Follow.
unfoldable pub follow_whole_status : Size → ℕ → (a m sheet : List ℕ) → ℕ
follow_whole_status z B a m s =
    refusal
    (array_tests z B (length a)
    ++ (whole_tests z m (length s) ++ (clean_tests narrow s ++ list_tests (sheet_layout z) (whole B) a m (chain_entries narrow s))))

unfoldable pub follow_whole : Size → ℕ → (a m sheet : List ℕ) → Outcome
follow_whole z B a m s = list_outcome (follow_whole_status z B a m s) (chain_entries narrow s)

unfoldable pub follow_whole_array : Size → ℕ → (a m sheet : List ℕ) → List ℕ
follow_whole_array z B a m s = list_array (sheet_layout z) (whole B) a m (follow_whole_status z B a m s) (chain_entries narrow s)

-- Save.
unfoldable pub save_whole_status : Size → ℕ → (a m : List ℕ) → ℕ
save_whole_status z B a m =
    refusal
    (array_tests z B (length a)
    ++ (4 unless map_fits (disks z) m ∷ 7 unless parts_cancel (layout_of z (column_base z)) (whole B) (erasures m) a ∷ []))

unfoldable pub save_whole : Size → ℕ → (a m : List ℕ) → Saving
save_whole z B a m =
    let L : Layout = layout_of z (column_base z) in
    cond (eqb (save_whole_status z B a m) 0) (Saved (count L.disks (determined L (erasures m)))) (Saving-as-Refused (save_whole_status z B a m))

unfoldable pub save_whole_array : Size → ℕ → (a m : List ℕ) → List ℕ
save_whole_array z B a m =
    cond (eqb (save_whole_status z B a m) 0) (saved (layout_of z (column_base z)) (whole B) a (erasures m))
    (cond (eqb (save_whole_status z B a m) 7) (zeroed (whole B) a (erasures m)) a)

-- Look: whether it hands back the block of disk d.
unfoldable pub can_look_whole : Size → ℕ → (a m : List ℕ) → ℕ → Bool
can_look_whole z B a m d =
    eqb (refusal (array_tests z B (length a))) 0 && (map_fits (disks z) m && (ltb d (disks z) && eqb (get_or m d 0) 0))

-- ---- Each position by itself

-- What a plan gives for n positions together, from what it gives for each alone, without sectors.
pub record PlanAlone (n : ℕ) (L : Layout) (f : Format) (e : ℕ → Bool) (answer : Outcome) (sheets : List ℕ) : Type 0 where
  -- Where it lists repairs, no position is fatal alone, and each has the sheet that it has alone.
  pub listed : outcome_status answer ≡ 0 → (p : ℕ) → p < n
      → (outcome_status (whole_outcome L (at_position n p e)) ≡ 0) × (sheet_at f p sheets ≡ whole_sheet L f (at_position n p e))
  -- Where it names position p, this is the lowest that is fatal alone. The number and its sheet are those that it has alone, and the other
  -- sheets are zero.
  pub named : (number p : ℕ) → answer ≡ Fatal number p
      → (p < n) × (whole_outcome L (at_position n p e) ≡ Fatal number 0) × (sheet_at f p sheets ≡ whole_sheet L f (at_position n p e))
      × ((q : ℕ) → q < p → outcome_status (whole_outcome L (at_position n q e)) ≡ 0)
      × ((q : ℕ) → q < n → (q ≡ p → ⊥) → sheet_at f q sheets ≡ blank_sheet f)
