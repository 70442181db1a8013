-- The worked cases 1 to 9 of paper 01 as one list, with two data rows, two data columns and blocks of one byte; and the example of paper 02,
-- P3. What the definitions give, and what the paper says: they agree. The crate worked has more such cases, of which the papers have none.
-- Assumes nothing.
use mathlib.Core.Path.{◌≡◌, refl}
use mathlib.Core.Bool.{Bool, true, false}
use mathlib.Core.List.{List, [], ◌∷◌, ◌++◌, map}
use Prim.Native.Nat.{ℕ, ◌*◌}
use lib.ListN.{replicate}
use Rattle.stripes.specs.Fold.{xsum, gate, every, bit, count, least, lowest, tabulate, ◌⊕◌}
use Rattle.stripes.specs.System.{among, on, whole, byte, sum_over, stripe_sum, sums_to_zero, changed, consistent, first_of, other_than}
use Rattle.stripes.specs.Erased.{erasures, without}
use Rattle.stripes.specs.Repair.{map_after, alone, allowed, first_allowed, some_allowed, next_disk, repair_of, peel, repairs, after, residual, fatal, sum_of_others, repaired, rebuilt, zeroed, residual_count}
use Rattle.stripes.specs.Joined.{united, part_by, part, joined}
use Rattle.stripes.specs.Undetermined.{undetermined, determined, lost, survivor_sum, part_sum, parts_cancel, saved_byte}
use Rattle.stripes.specs.Sectors.{sector_at, sectored, at_position, sector_entry, rising, sector_repairs, of_position, fatal_position}
use Rattle.stripes.specs.Cycle.{partner, trace, lowest_of, cycle_of}
use Rattle.stripes.specs.Smallest.{price, too_much, way_costs, through_cost, on_cheapest, on_smallest, shown_cycle}
use Rattle.model.specs.Grid.{grid, layout_of, rectangle, rows, columns, across, disks, disk_at, is_data, array_bytes, array_of, side_fits, size_fits, block_fits, sector_fits, sectors_fit, map_bytes, map_fits, down}
use Rattle.model.specs.Equations.{cell, row_data, column_data}
use Rattle.model.specs.Refusal.{refusal, array_tests, sector_tests}
use Rattle.model.specs.Array.{encoded_byte, encoded, seal_status, seal_array, write_tests, is_parity_of, written_byte, written, write_status, write_array}
use Rattle.model.specs.Sheet.{chain_bytes, sheet_of, blank_sheet, number_bytes, sheets_of, repair_sheets, blank_sheets}
use Rattle.model.specs.Plan.{sheet_tests, plan_tests, one_tests, plan_outcome, outcome_status, outcome_count, outcome_position, loss_outcome, cycle_sheets, loss_sheets, plan_sheets}
use Rattle.model.specs.Turn.{clear, loss_told, contradiction, repairs_made, turn_repairs, contradicts, turn_of}
use Rattle.model.specs.Rebuild.{buffer_tests, rebuild_tests, rebuild_refusal, rebuild_turn}
use Rattle.model.specs.Listing.{digit, decimal, repair_word, fatal_word, refused_word, entry_lines, listed, listing}
use Rattle.model.specs.declared.Size.{Size}

-- A case by its number in the paper, 0 where it has none: numbers and bytes in one list.
pub record Case : Type 0 where
  pub number : ℕ
  pub computed : List ℕ
  pub expected : List ℕ

unfoldable pub two : Size
two = rectangle 2 2

-- The paper's sealed array A.
unfoldable pub A : List ℕ
A = 1 ∷ 2 ∷ 3 ∷ 4 ∷ 8 ∷ 12 ∷ 5 ∷ 10 ∷ 15 ∷ []

-- Whatever stands in n sheets beforehand.
unfoldable pub before : ℕ → List ℕ
before n = replicate (98 * n) 7

-- What plan gives for a map with n sectors a block: the number, the count, the position, the sheets.
unfoldable pub planned : Size → (n : ℕ) → List ℕ → List ℕ
unfolding before
planned z n m =
    outcome_status (plan_outcome z n m (before n)) ∷ outcome_count (plan_outcome z n m (before n)) 99
    ∷ outcome_position (plan_outcome z n m (before n)) 99 ∷ plan_sheets z n m (before n)

-- What a turn of at most k repairs gives for an array with n sectors a block and a map: the number, the count, the array, the map, the
-- sheets.
unfoldable pub turned : Size → (n k : ℕ) → (a m : List ℕ) → List ℕ
unfolding before
turned z n k a m =
    let t = rebuild_turn z n 1 a m (before n) k in
    outcome_status t.answer ∷ outcome_count t.answer 99 ∷ t.array ++ t.map ++ t.sheets

-- The same without a limit to speak of.
unfoldable pub restored : Size → (n : ℕ) → (a m : List ℕ) → List ℕ
unfolding turned
restored z n a m = turned z n 256 a m

unfoldable pub cases : List Case
unfolding two A planned turned restored
cases =
    -- Data 1 2 / 4 8 seals to A, whatever stands in the parities' place.
    record {
      number = 1;
      computed =
          seal_status two 1 (1 ∷ 2 ∷ 99 ∷ 4 ∷ 8 ∷ 7 ∷ 6 ∷ 5 ∷ 4 ∷ []) ∷ seal_array two 1 (1 ∷ 2 ∷ 99 ∷ 4 ∷ 8 ∷ 7 ∷ 6 ∷ 5 ∷ 4 ∷ []);
      expected = 0 ∷ A;
    }
    -- No disk erased: restored, no repairs; byte 0 of the sheet is 1, the rest zero.
    ∷ record {
      number = 2;
      computed = restored two 1 A (0 ∷ 0 ∷ 0 ∷ 0 ∷ 0 ∷ 0 ∷ 0 ∷ 0 ∷ 0 ∷ []);
      expected = 0 ∷ 0 ∷ A ++ replicate 9 0 ++ 1 ∷ replicate 97 0;
    }
    -- Disks 0, 2, 6 erased: the sheet, and A is restored whatever stands on them; the listing has the lines `repair 3`, `2 18`,
    -- `0 0` and `6 2`.
    ∷ record {
      number = 3;
      computed =
          restored two 1 (7 ∷ 2 ∷ 7 ∷ 4 ∷ 8 ∷ 12 ∷ 7 ∷ 10 ∷ 15 ∷ []) (1 ∷ 0 ∷ 1 ∷ 0 ∷ 0 ∷ 0 ∷ 1 ∷ 0 ∷ 0 ∷ [])
          ++ listing (2 ∷ 2 ∷ 1 ∷ 0 ∷ 1 ∷ 0 ∷ 0 ∷ 0 ∷ 1 ∷ 0 ∷ 0 ∷ []);
      expected =
          0 ∷ 3 ∷ A ++ replicate 9 0 ++ 1 ∷ 1 ∷ 2 ∷ 18 ∷ 2 ∷ 0 ∷ 0 ∷ 3 ∷ 6 ∷ 2 ∷ 0 ∷ replicate 87 0
          ++ 114 ∷ 101 ∷ 112 ∷ 97 ∷ 105 ∷ 114 ∷ 32 ∷ 51 ∷ 10 ∷ 50 ∷ 32 ∷ 49 ∷ 56 ∷ 10 ∷ 48 ∷ 32 ∷ 48 ∷ 10 ∷ 54 ∷ 32 ∷ 50 ∷ 10 ∷ [];
    }
    -- Disks 0, 2, 6, 8 erased: fatal, 4 lost; loop 0, 2, 8, 6 on stripes 0, 18, 2, 16. Nothing else changes. The listing begins
    -- with `fatal 4`.
    ∷ record {
      number = 4;
      computed =
          planned two 1 (1 ∷ 0 ∷ 1 ∷ 0 ∷ 0 ∷ 0 ∷ 1 ∷ 0 ∷ 1 ∷ []) ++ restored two 1 A (1 ∷ 0 ∷ 1 ∷ 0 ∷ 0 ∷ 0 ∷ 1 ∷ 0 ∷ 1 ∷ [])
          ++ listing (2 ∷ 2 ∷ 1 ∷ 0 ∷ 1 ∷ 0 ∷ 0 ∷ 0 ∷ 1 ∷ 0 ∷ 1 ∷ []);
      expected =
          6 ∷ 4 ∷ 0 ∷ 2 ∷ 1 ∷ 0 ∷ 0 ∷ 2 ∷ 2 ∷ 18 ∷ 3 ∷ 8 ∷ 2 ∷ 4 ∷ 6 ∷ 16 ∷ 0 ∷ replicate 84 0
          ++ 6 ∷ 4 ∷ A ++ 1 ∷ 0 ∷ 1 ∷ 0 ∷ 0 ∷ 0 ∷ 1 ∷ 0 ∷ 1 ∷ 2 ∷ 1 ∷ 0 ∷ 0 ∷ 2 ∷ 2 ∷ 18 ∷ 3 ∷ 8 ∷ 2 ∷ 4 ∷ 6 ∷ 16 ∷ 0 ∷ replicate 84 0
          ++ 102 ∷ 97 ∷ 116 ∷ 97 ∷ 108 ∷ 32 ∷ 52 ∷ 10 ∷ 48 ∷ 32 ∷ 48 ∷ 10 ∷ 50 ∷ 32 ∷ 49 ∷ 56 ∷ 10 ∷ 56 ∷ 32 ∷ 50 ∷ 10 ∷ 54 ∷ 32 ∷ 49 ∷ 54 ∷ 10 ∷ [];
    }
    -- Disks 0, 1, 3, 4 erased: fatal.
    ∷ record {
      number = 5;
      computed = planned two 1 (1 ∷ 1 ∷ 0 ∷ 1 ∷ 1 ∷ 0 ∷ 0 ∷ 0 ∷ 0 ∷ []);
      expected = 6 ∷ 4 ∷ 0 ∷ 2 ∷ 1 ∷ 0 ∷ 0 ∷ 2 ∷ 1 ∷ 17 ∷ 3 ∷ 4 ∷ 1 ∷ 4 ∷ 3 ∷ 16 ∷ 0 ∷ replicate 84 0;
    }
    -- Disks 0, 4, 8 erased: repairs 0, 4, 8, on stripes 0, 1, 2.
    ∷ record {
      number = 6;
      computed = restored two 1 (7 ∷ 2 ∷ 3 ∷ 4 ∷ 7 ∷ 12 ∷ 5 ∷ 10 ∷ 7 ∷ []) (1 ∷ 0 ∷ 0 ∷ 0 ∷ 1 ∷ 0 ∷ 0 ∷ 0 ∷ 1 ∷ []);
      expected = 0 ∷ 3 ∷ A ++ replicate 9 0 ++ 1 ∷ 1 ∷ 0 ∷ 0 ∷ 2 ∷ 4 ∷ 1 ∷ 3 ∷ 8 ∷ 2 ∷ 0 ∷ replicate 87 0;
    }
    -- Disks 0, 1, 2, 3, 6 erased: restored, the full five.
    ∷ record {
      number = 7;
      computed = restored two 1 (7 ∷ 7 ∷ 7 ∷ 7 ∷ 8 ∷ 12 ∷ 7 ∷ 10 ∷ 15 ∷ []) (1 ∷ 1 ∷ 1 ∷ 1 ∷ 0 ∷ 0 ∷ 1 ∷ 0 ∷ 0 ∷ []);
      expected = 0 ∷ 5 ∷ A ++ replicate 9 0 ++ 1 ∷ 1 ∷ 1 ∷ 17 ∷ 2 ∷ 2 ∷ 18 ∷ 3 ∷ 0 ∷ 0 ∷ 4 ∷ 3 ∷ 1 ∷ 5 ∷ 6 ∷ 2 ∷ 0 ∷ replicate 81 0;
    }
    -- A with disk 8 holding 14, disk 0 erased: refusal 7, disk 0 becomes 0, and the sheet is zero.
    ∷ record {
      number = 8;
      computed = restored two 1 (1 ∷ 2 ∷ 3 ∷ 4 ∷ 8 ∷ 12 ∷ 5 ∷ 10 ∷ 14 ∷ []) (1 ∷ 0 ∷ 0 ∷ 0 ∷ 0 ∷ 0 ∷ 0 ∷ 0 ∷ 0 ∷ []);
      expected = 7 ∷ 99 ∷ 0 ∷ 2 ∷ 3 ∷ 4 ∷ 8 ∷ 12 ∷ 5 ∷ 10 ∷ 14 ∷ 1 ∷ replicate 106 0;
    }
    -- Write 9 to disk 0 of A: disks 0, 2, 6, 8 become 9, 11, 13, 7.
    ∷ record {
      number = 9;
      computed = write_status two 1 A 0 (9 ∷ []) ∷ write_array two 1 A 0 (9 ∷ []);
      expected = 0 ∷ 9 ∷ 2 ∷ 11 ∷ 4 ∷ 8 ∷ 12 ∷ 13 ∷ 10 ∷ 7 ∷ [];
    }
    ∷ []

-- Every case holds, and the paper's nine are there.
pub cases_hold : (map (λ (c : Case). c.computed) cases ≡ map (λ (c : Case). c.expected) cases)
    × (map (λ (c : Case). c.number) cases ≡ 1 ∷ 2 ∷ 3 ∷ 4 ∷ 5 ∷ 6 ∷ 7 ∷ 8 ∷ 9 ∷ [])
unfolding cases outcome_position sector_at sectored at_position sector_entry rising sector_repairs of_position fatal_position sector_tests sector_fits sectors_fit map_bytes one_tests sheets_of repair_sheets blank_sheets cycle_sheets seal_status seal_array encoded encoded_byte write_status write_array write_tests written written_byte is_parity_of refusal array_tests side_fits size_fits block_fits array_bytes array_of disks across down rows columns disk_at is_data row_data column_data cell byte whole xsum ◌⊕◌ tabulate gate every bit count lowest among on sum_over stripe_sum sums_to_zero grid layout_of map_fits erasures without alone allowed first_allowed some_allowed next_disk repair_of peel repairs after residual residual_count lost fatal changed sum_of_others repaired rebuilt zeroed consistent least price too_much way_costs through_cost on_cheapest on_smallest partner first_of other_than trace lowest_of cycle_of shown_cycle number_bytes chain_bytes sheet_of blank_sheet sheet_tests plan_tests loss_outcome loss_sheets plan_outcome plan_sheets outcome_status outcome_count map_after clear loss_told contradiction repairs_made turn_repairs contradicts turn_of buffer_tests rebuild_tests rebuild_refusal rebuild_turn united part_by part joined undetermined rectangle digit decimal repair_word fatal_word refused_word entry_lines listed listing
cases_hold = (refl, refl)

-- The example of paper 02, P3, on the sealed array 1 2 4 7 / 8 16 32 56 / 64 128 3 195 / 73 146 39 252. Nine disks are erased: eight are
-- lost, and disk 6 is not; its byte is 32, whatever the erased blocks hold. No repair reaches it: the plan for it gives 6.
abbrev nine : ℕ → Bool
nine = erasures (1 ∷ 1 ∷ 0 ∷ 0 ∷ 1 ∷ 1 ∷ 1 ∷ 0 ∷ 0 ∷ 0 ∷ 1 ∷ 1 ∷ 0 ∷ 0 ∷ 1 ∷ 1 ∷ [])

pub nine_hold : (lost (layout_of (rectangle 3 3) 16) nine ≡ 8) × (determined (layout_of (rectangle 3 3) 16) nine 6 ≡ true)
    × (saved_byte (layout_of (rectangle 3 3) 16) (whole 1) nine (9 ∷ 9 ∷ 4 ∷ 7 ∷ 9 ∷ 9 ∷ 9 ∷ 56 ∷ 64 ∷ 128 ∷ 9 ∷ 9 ∷ 73 ∷ 146 ∷ 9 ∷ 9 ∷ []) 6 0 ≡ 32)
    × (residual (layout_of (rectangle 3 3) 16) nine 6 ≡ true)
unfolding residual repairs peel next_disk lowest some_allowed allowed alone every after lost determined undetermined saved_byte part_sum survivor_sum sum_over on among joined part part_by united first_of other_than without erasures count bit gate xsum ◌⊕◌ byte whole layout_of rectangle grid rows columns
nine_hold = (refl, refl, refl, refl)

-- Without disk 6 no stripe has fewer than two erased disks, and yet survivors can contradict: here disk 2 holds 5 in place of 4.
abbrev eight : ℕ → Bool
eight = erasures (1 ∷ 1 ∷ 0 ∷ 0 ∷ 1 ∷ 1 ∷ 0 ∷ 0 ∷ 0 ∷ 0 ∷ 1 ∷ 1 ∷ 0 ∷ 0 ∷ 1 ∷ 1 ∷ [])

pub eight_hold : (parts_cancel (layout_of (rectangle 3 3) 16) (whole 1) eight (9 ∷ 9 ∷ 4 ∷ 7 ∷ 9 ∷ 9 ∷ 32 ∷ 56 ∷ 64 ∷ 128 ∷ 9 ∷ 9 ∷ 73 ∷ 146 ∷ 9 ∷ 9 ∷ []) ≡ true)
    × (parts_cancel (layout_of (rectangle 3 3) 16) (whole 1) eight (9 ∷ 9 ∷ 5 ∷ 7 ∷ 9 ∷ 9 ∷ 32 ∷ 56 ∷ 64 ∷ 128 ∷ 9 ∷ 9 ∷ 73 ∷ 146 ∷ 9 ∷ 9 ∷ []) ≡ false)
unfolding parts_cancel part_sum survivor_sum sum_over on among joined part part_by united first_of other_than without erasures every gate xsum ◌⊕◌ byte whole layout_of rectangle grid rows columns
eight_hold = (refl, refl)
