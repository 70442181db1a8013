-- Worked cases without a number in the papers: sides of 2 and 3 with blocks of one byte as one list, blocks of two sectors of one byte as
-- another. What the definitions give, and what the rules of the papers come to by hand: they agree.
-- Assumes nothing.
use mathlib.Core.Path.{◌≡◌, refl}
use mathlib.Core.List.{List, [], ◌∷◌, ◌++◌, map}
use Prim.Native.Nat.{ℕ}
use lib.ListN.{replicate}
use Rattle.stripes.specs.Fold.{xsum, gate, every, bit, count, least, lowest, tabulate, ◌⊕◌}
use Rattle.stripes.specs.System.{among, on, whole, byte, sum_over, stripe_sum, sums_to_zero, changed, consistent, first_of, other_than}
use Rattle.stripes.specs.Erased.{erasures, without}
use Rattle.stripes.specs.Repair.{map_after, alone, allowed, first_allowed, some_allowed, next_disk, repair_of, peel, repairs, after, residual, fatal, sum_of_others, repaired, rebuilt, zeroed, all_allowed, clears, residual_count}
use Rattle.stripes.specs.Joined.{united, part_by, part, joined}
use Rattle.stripes.specs.Undetermined.{undetermined, determined, lost, survivor_sum, part_sum, parts_cancel, saved_byte, saved}
use Rattle.stripes.specs.Wanted.{on_side, side_repairs, serves, takes_lower, wanted_stripe, wanted_repairs}
use Rattle.stripes.specs.Sectors.{sector_at, sectored, at_position, sector_entry, rising, sector_repairs, of_position, fatal_position}
use Rattle.stripes.specs.Cycle.{partner, trace, lowest_of, cycle_of}
use Rattle.stripes.specs.Smallest.{price, too_much, way_costs, through_cost, on_cheapest, on_smallest, shown_cycle}
use Rattle.model.specs.Grid.{grid, layout_of, rectangle, rows, columns, across, disks, disk_at, is_data, array_bytes, array_of, side_fits, size_fits, block_fits, sector_fits, sectors_fit, map_bytes, map_fits, down}
use Rattle.model.specs.Equations.{cell, row_data, column_data}
use Rattle.model.specs.Refusal.{refusal, array_tests, sector_tests}
use Rattle.model.specs.Array.{encoded_byte, encoded, seal_status, seal_array, write_tests, is_parity_of, written_byte, written, write_status, write_array, all_present, can_look, look_offset, look_length}
use Rattle.model.specs.Sheet.{narrow, chain_bytes, sheet_of, blank_sheet, number_bytes, number_at, sheets_of, sheet_at, repair_sheets, blank_sheets}
use Rattle.model.specs.Chain.{entry_at, next_number, visited, chain_numbers, within, different, chain_tests, on_chain, no_leftovers, entries_at, chain_entries}
use Rattle.model.specs.Tidy.{tidy_tests, tidy_status, tidy_form, tidy_sheet}
use Rattle.model.specs.Plan.{sheet_tests, plan_tests, one_tests, plan_outcome, outcome_status, outcome_count, outcome_position, loss_outcome, cycle_sheets, loss_sheets, plan_sheets}
use Rattle.model.specs.PlanDisk.{can_be_wanted, plan_disk_tests, disk_outcome, disk_sheet, plan_disk_outcome, plan_disk_sheet}
use Rattle.model.specs.Turn.{clear, loss_told, contradiction, repairs_made, turn_repairs, contradicts, turn_of}
use Rattle.model.specs.Rebuild.{buffer_tests, rebuild_tests, rebuild_refusal, rebuild_turn}
use Rattle.model.specs.Save.{map_tests, save_tests, save_status, save_answer, save_array, saving_status, saving_count}
use Rattle.model.specs.Follow.{sheets_entries, chains_tests, sheets_tests, list_tests, follow_tests, follow_status, follow_outcome, follow_array}
use Rattle.model.specs.Listing.{digit, decimal, repair_word, fatal_word, refused_word, entry_lines, listed, listing}
use Rattle.model.specs.declared.Size.{Size}
use Rattle.model.proofs.Cases.{Case, two, A, planned, turned, restored}

wide : Size
wide = rectangle 2 3

high : Size
high = rectangle 3 2

-- A with other bytes on disks 0, 2 and 6.
D : List ℕ
D = 7 ∷ 2 ∷ 7 ∷ 4 ∷ 8 ∷ 12 ∷ 7 ∷ 10 ∷ 15 ∷ []

-- A sealed array with two data rows and three data columns, and one with three and two.
W : List ℕ
W = 1 ∷ 2 ∷ 4 ∷ 7 ∷ 8 ∷ 16 ∷ 32 ∷ 56 ∷ 9 ∷ 18 ∷ 36 ∷ 63 ∷ []

H : List ℕ
H = 1 ∷ 2 ∷ 3 ∷ 4 ∷ 8 ∷ 12 ∷ 16 ∷ 32 ∷ 48 ∷ 21 ∷ 42 ∷ 63 ∷ []

-- What follow gives for an array, a map and sheets: the number, the count, the array.
followed : Size → (n : ℕ) → (a m sheets : List ℕ) → List ℕ
followed z n a m sheets =
    outcome_status (follow_outcome z n 1 a m sheets) ∷ outcome_count (follow_outcome z n 1 a m sheets) 99 ∷ follow_array z n 1 a m sheets

-- What the plan for one disk gives, where 99 stood for the count and 9 all over the sheet: the number, the count, the sheet.
planned_for : Size → (m : List ℕ) → (d : ℕ) → List ℕ
planned_for z m d =
    outcome_status (plan_disk_outcome z m (replicate 98 9) d) ∷ outcome_count (plan_disk_outcome z m (replicate 98 9) d) 99
    ∷ plan_disk_sheet z m (replicate 98 9) d

-- What tidy gives for a sheet: the number, the sheet.
tidied : List ℕ → List ℕ
tidied sheet = tidy_status narrow sheet ∷ tidy_sheet narrow sheet

-- What save gives for an array and a map: the number, the count, the array.
rescued : Size → (a m : List ℕ) → List ℕ
rescued z a m = saving_status (save_answer z 1 1 a m) ∷ saving_count (save_answer z 1 1 a m) 99 ∷ save_array z 1 1 a m

unfoldable pub block_cases : List Case
unfolding two wide high A W H D planned turned restored followed tidied planned_for rescued
block_cases =
    -- The listing for empty input, for one size byte and for a size without a map: `refused 1` twice, `refused 4`.
    record {
      number = 0;
      computed = listing [] ++ listing (2 ∷ []) ++ listing (2 ∷ 2 ∷ []);
      expected =
          114 ∷ 101 ∷ 102 ∷ 117 ∷ 115 ∷ 101 ∷ 100 ∷ 32 ∷ 49 ∷ 10 ∷ 114 ∷ 101 ∷ 102 ∷ 117 ∷ 115 ∷ 101 ∷ 100 ∷ 32 ∷ 49 ∷ 10
          ∷ 114 ∷ 101 ∷ 102 ∷ 117 ∷ 115 ∷ 101 ∷ 100 ∷ 32 ∷ 52 ∷ 10 ∷ [];
    }
    -- Disks 0 to 5 and 8 erased: fatal. Seven are erased, six of them are lost, for 8 can be repaired, and four are in the loop.
    ∷ record {
      number = 0;
      computed = planned two 1 (1 ∷ 1 ∷ 1 ∷ 1 ∷ 1 ∷ 1 ∷ 0 ∷ 0 ∷ 1 ∷ []);
      expected = 6 ∷ 6 ∷ 0 ∷ 2 ∷ 1 ∷ 0 ∷ 0 ∷ 2 ∷ 1 ∷ 17 ∷ 3 ∷ 4 ∷ 1 ∷ 4 ∷ 3 ∷ 16 ∷ 0 ∷ replicate 84 0;
    }
    -- Case 3's repairs from a sheet whose chain visits records 3, 1 and 2; the same with other bytes behind them, with a ring, with a
    -- number that no record has, and with a disk left over.
    ∷ record {
      number = 0;
      computed =
          followed two 1 D (1 ∷ 0 ∷ 1 ∷ 0 ∷ 0 ∷ 0 ∷ 1 ∷ 0 ∷ 0 ∷ []) (1 ∷ 3 ∷ 0 ∷ 0 ∷ 2 ∷ 6 ∷ 2 ∷ 0 ∷ 2 ∷ 18 ∷ 1 ∷ replicate 87 0)
          ++ followed two 1 D (1 ∷ 0 ∷ 1 ∷ 0 ∷ 0 ∷ 0 ∷ 1 ∷ 0 ∷ 0 ∷ []) (1 ∷ 3 ∷ 0 ∷ 0 ∷ 2 ∷ 6 ∷ 2 ∷ 0 ∷ 2 ∷ 18 ∷ 1 ∷ replicate 87 99)
          ++ followed two 1 D (1 ∷ 0 ∷ 1 ∷ 0 ∷ 0 ∷ 0 ∷ 1 ∷ 0 ∷ 0 ∷ []) (1 ∷ 3 ∷ 0 ∷ 0 ∷ 2 ∷ 6 ∷ 2 ∷ 3 ∷ 2 ∷ 18 ∷ 1 ∷ replicate 87 99)
          ++ followed two 1 D (1 ∷ 0 ∷ 1 ∷ 0 ∷ 0 ∷ 0 ∷ 1 ∷ 0 ∷ 0 ∷ []) (1 ∷ 3 ∷ 0 ∷ 0 ∷ 2 ∷ 6 ∷ 2 ∷ 33 ∷ 2 ∷ 18 ∷ 1 ∷ replicate 87 99)
          ++ followed two 1 D (1 ∷ 0 ∷ 1 ∷ 0 ∷ 0 ∷ 0 ∷ 1 ∷ 0 ∷ 0 ∷ []) (1 ∷ 3 ∷ 0 ∷ 0 ∷ 0 ∷ 0 ∷ 0 ∷ 0 ∷ 2 ∷ 18 ∷ 1 ∷ replicate 87 0);
      expected = 0 ∷ 3 ∷ A ++ 14 ∷ 99 ∷ D ++ 13 ∷ 99 ∷ D ++ 10 ∷ 99 ∷ D ++ 11 ∷ 99 ∷ D;
    }
    -- Tidy on the sheets of these that have other bytes behind the records: taken, and refused by 13 and 10; refused too with the
    -- kind of a loop and a ring, and with a byte too few.
    ∷ record {
      number = 0;
      computed =
          tidied (1 ∷ 3 ∷ 0 ∷ 0 ∷ 2 ∷ 6 ∷ 2 ∷ 0 ∷ 2 ∷ 18 ∷ 1 ∷ replicate 87 99)
          ++ tidied (1 ∷ 3 ∷ 0 ∷ 0 ∷ 2 ∷ 6 ∷ 2 ∷ 3 ∷ 2 ∷ 18 ∷ 1 ∷ replicate 87 99)
          ++ tidied (1 ∷ 3 ∷ 0 ∷ 0 ∷ 2 ∷ 6 ∷ 2 ∷ 33 ∷ 2 ∷ 18 ∷ 1 ∷ replicate 87 99)
          ++ tidied (2 ∷ 1 ∷ 0 ∷ 0 ∷ 1 ∷ replicate 93 0) ++ tidied (1 ∷ 1 ∷ replicate 95 0);
      expected =
          0 ∷ 1 ∷ 1 ∷ 2 ∷ 18 ∷ 2 ∷ 0 ∷ 0 ∷ 3 ∷ 6 ∷ 2 ∷ 0 ∷ replicate 87 0
          ++ 13 ∷ 1 ∷ 3 ∷ 0 ∷ 0 ∷ 2 ∷ 6 ∷ 2 ∷ 3 ∷ 2 ∷ 18 ∷ 1 ∷ replicate 87 99 ++ 10 ∷ 1 ∷ 3 ∷ 0 ∷ 0 ∷ 2 ∷ 6 ∷ 2 ∷ 33 ∷ 2 ∷ 18 ∷ 1 ∷ replicate 87 99
          ++ 10 ∷ 2 ∷ 1 ∷ 0 ∷ 0 ∷ 1 ∷ replicate 93 0 ++ 5 ∷ 1 ∷ 1 ∷ replicate 95 0;
    }
    -- Case 3 in turns of two: the first repairs disks 2 and 0 and leaves 6 erased, the second repairs it and finds all sums zero.
    ∷ record {
      number = 0;
      computed =
          turned two 1 2 (7 ∷ 2 ∷ 7 ∷ 4 ∷ 8 ∷ 12 ∷ 7 ∷ 10 ∷ 15 ∷ []) (1 ∷ 0 ∷ 1 ∷ 0 ∷ 0 ∷ 0 ∷ 1 ∷ 0 ∷ 0 ∷ [])
          ++ turned two 1 2 (1 ∷ 2 ∷ 3 ∷ 4 ∷ 8 ∷ 12 ∷ 7 ∷ 10 ∷ 15 ∷ []) (0 ∷ 0 ∷ 0 ∷ 0 ∷ 0 ∷ 0 ∷ 1 ∷ 0 ∷ 0 ∷ []);
      expected =
          0 ∷ 2 ∷ 1 ∷ 2 ∷ 3 ∷ 4 ∷ 8 ∷ 12 ∷ 7 ∷ 10 ∷ 15 ∷ 0 ∷ 0 ∷ 0 ∷ 0 ∷ 0 ∷ 0 ∷ 1 ∷ 0 ∷ 0 ∷ 1 ∷ 1 ∷ 2 ∷ 18 ∷ 2 ∷ 0 ∷ 0 ∷ 0 ∷ replicate 90 0
          ++ 0 ∷ 1 ∷ A ++ replicate 9 0 ++ 1 ∷ 1 ∷ 6 ∷ 2 ∷ 0 ∷ replicate 93 0;
    }
    -- Disks 0 and 4 erased, disk 8 holding 14, in turns of one: the first repairs disk 0 and tests nothing, the second finds the
    -- contradiction, and disk 4 stays erased and becomes 0. A turn of no repairs, and a clear map with the same contradiction.
    ∷ record {
      number = 0;
      computed =
          turned two 1 1 (7 ∷ 2 ∷ 3 ∷ 4 ∷ 7 ∷ 12 ∷ 5 ∷ 10 ∷ 14 ∷ []) (1 ∷ 0 ∷ 0 ∷ 0 ∷ 1 ∷ 0 ∷ 0 ∷ 0 ∷ 0 ∷ [])
          ++ turned two 1 1 (1 ∷ 2 ∷ 3 ∷ 4 ∷ 7 ∷ 12 ∷ 5 ∷ 10 ∷ 14 ∷ []) (0 ∷ 0 ∷ 0 ∷ 0 ∷ 1 ∷ 0 ∷ 0 ∷ 0 ∷ 0 ∷ [])
          ++ turned two 1 0 A (1 ∷ 0 ∷ 1 ∷ 0 ∷ 0 ∷ 0 ∷ 1 ∷ 0 ∷ 1 ∷ [])
          ++ turned two 1 1 (1 ∷ 2 ∷ 3 ∷ 4 ∷ 8 ∷ 12 ∷ 5 ∷ 10 ∷ 14 ∷ []) (replicate 9 0);
      expected =
          0 ∷ 1 ∷ 1 ∷ 2 ∷ 3 ∷ 4 ∷ 7 ∷ 12 ∷ 5 ∷ 10 ∷ 14 ∷ 0 ∷ 0 ∷ 0 ∷ 0 ∷ 1 ∷ 0 ∷ 0 ∷ 0 ∷ 0 ∷ 1 ∷ 1 ∷ 0 ∷ 0 ∷ 0 ∷ replicate 93 0
          ++ 7 ∷ 99 ∷ 1 ∷ 2 ∷ 3 ∷ 4 ∷ 0 ∷ 12 ∷ 5 ∷ 10 ∷ 14 ∷ 0 ∷ 0 ∷ 0 ∷ 0 ∷ 1 ∷ 0 ∷ 0 ∷ 0 ∷ 0 ∷ replicate 98 0
          ++ 12 ∷ 99 ∷ A ++ 1 ∷ 0 ∷ 1 ∷ 0 ∷ 0 ∷ 0 ∷ 1 ∷ 0 ∷ 1 ∷ replicate 98 7
          ++ 7 ∷ 99 ∷ 1 ∷ 2 ∷ 3 ∷ 4 ∷ 8 ∷ 12 ∷ 5 ∷ 10 ∷ 14 ∷ replicate 9 0 ++ replicate 98 0;
    }
    -- Two data rows, three data columns: data 1 2 4 / 8 16 32 seals to W; disks 0 to 3, 4 and 8, the full six, are restored.
    ∷ record {
      number = 0;
      computed =
          seal_array wide 1 (1 ∷ 2 ∷ 4 ∷ 99 ∷ 8 ∷ 16 ∷ 32 ∷ 9 ∷ 8 ∷ 7 ∷ 6 ∷ 5 ∷ [])
          ++ restored wide 1 (7 ∷ 7 ∷ 7 ∷ 7 ∷ 7 ∷ 16 ∷ 32 ∷ 56 ∷ 7 ∷ 18 ∷ 36 ∷ 63 ∷ []) (1 ∷ 1 ∷ 1 ∷ 1 ∷ 1 ∷ 0 ∷ 0 ∷ 0 ∷ 1 ∷ 0 ∷ 0 ∷ 0 ∷ []);
      expected =
          W ++ 0 ∷ 6 ∷ W ++ replicate 12 0 ++ 1 ∷ 1 ∷ 1 ∷ 17 ∷ 2 ∷ 2 ∷ 18 ∷ 3 ∷ 3 ∷ 19 ∷ 4 ∷ 0 ∷ 0 ∷ 5 ∷ 4 ∷ 1 ∷ 6 ∷ 8 ∷ 2 ∷ 0 ∷ replicate 78 0;
    }
    -- There disks 0, 3, 8, 11, the corners, are fatal: loop 0, 3, 11, 8 on stripes 0, 19, 2, 16. Disk 2 holds data, disk 3 does not.
    ∷ record {
      number = 0;
      computed =
          planned wide 1 (1 ∷ 0 ∷ 0 ∷ 1 ∷ 0 ∷ 0 ∷ 0 ∷ 0 ∷ 1 ∷ 0 ∷ 0 ∷ 1 ∷ [])
          ++ write_status wide 1 W 2 (9 ∷ []) ∷ write_status wide 1 W 3 (9 ∷ []) ∷ write_array wide 1 W 2 (9 ∷ []);
      expected =
          6 ∷ 4 ∷ 0 ∷ 2 ∷ 1 ∷ 0 ∷ 0 ∷ 2 ∷ 3 ∷ 19 ∷ 3 ∷ 11 ∷ 2 ∷ 4 ∷ 8 ∷ 16 ∷ 0 ∷ replicate 84 0
          ++ 0 ∷ 8 ∷ 1 ∷ 2 ∷ 9 ∷ 10 ∷ 8 ∷ 16 ∷ 32 ∷ 56 ∷ 9 ∷ 18 ∷ 41 ∷ 50 ∷ [];
    }
    -- Three data rows, two data columns: data 1 2 / 4 8 / 16 32 seals to H; disks 0, 3, 8, 11 are restored, each by its row. Disk 3
    -- holds data, disk 2 does not.
    ∷ record {
      number = 0;
      computed =
          seal_array high 1 (1 ∷ 2 ∷ 99 ∷ 4 ∷ 8 ∷ 9 ∷ 16 ∷ 32 ∷ 8 ∷ 7 ∷ 6 ∷ 5 ∷ [])
          ++ restored high 1 (7 ∷ 2 ∷ 3 ∷ 7 ∷ 8 ∷ 12 ∷ 16 ∷ 32 ∷ 7 ∷ 21 ∷ 42 ∷ 7 ∷ []) (1 ∷ 0 ∷ 0 ∷ 1 ∷ 0 ∷ 0 ∷ 0 ∷ 0 ∷ 1 ∷ 0 ∷ 0 ∷ 1 ∷ [])
          ++ write_status high 1 H 2 (9 ∷ []) ∷ write_status high 1 H 3 (9 ∷ []) ∷ [];
      expected =
          H ++ 0 ∷ 4 ∷ H ++ replicate 12 0 ++ 1 ∷ 1 ∷ 0 ∷ 0 ∷ 2 ∷ 3 ∷ 1 ∷ 3 ∷ 8 ∷ 2 ∷ 4 ∷ 11 ∷ 3 ∷ 0 ∷ replicate 84 0 ++ 8 ∷ 0 ∷ [];
    }
    -- The listing reads the rows first: the same map gives `repair 3`, `3 19`, `0 0`, `8 2` with two rows and `repair 3`, `0 0`, `3 1`,
    -- `8 2` with three. With two rows follow takes its repairs in another order.
    ∷ record {
      number = 0;
      computed =
          listing (2 ∷ 3 ∷ 1 ∷ 0 ∷ 0 ∷ 1 ∷ 0 ∷ 0 ∷ 0 ∷ 0 ∷ 1 ∷ 0 ∷ 0 ∷ 0 ∷ []) ++ listing (3 ∷ 2 ∷ 1 ∷ 0 ∷ 0 ∷ 1 ∷ 0 ∷ 0 ∷ 0 ∷ 0 ∷ 1 ∷ 0 ∷ 0 ∷ 0 ∷ [])
          ++ followed wide 1 (7 ∷ 2 ∷ 4 ∷ 7 ∷ 8 ∷ 16 ∷ 32 ∷ 56 ∷ 7 ∷ 18 ∷ 36 ∷ 63 ∷ []) (1 ∷ 0 ∷ 0 ∷ 1 ∷ 0 ∷ 0 ∷ 0 ∷ 0 ∷ 1 ∷ 0 ∷ 0 ∷ 0 ∷ [])
          (1 ∷ 1 ∷ 8 ∷ 2 ∷ 2 ∷ 0 ∷ 16 ∷ 3 ∷ 3 ∷ 0 ∷ 0 ∷ replicate 87 0);
      expected =
          114 ∷ 101 ∷ 112 ∷ 97 ∷ 105 ∷ 114 ∷ 32 ∷ 51 ∷ 10 ∷ 51 ∷ 32 ∷ 49 ∷ 57 ∷ 10 ∷ 48 ∷ 32 ∷ 48 ∷ 10 ∷ 56 ∷ 32 ∷ 50 ∷ 10
          ∷ 114 ∷ 101 ∷ 112 ∷ 97 ∷ 105 ∷ 114 ∷ 32 ∷ 51 ∷ 10 ∷ 48 ∷ 32 ∷ 48 ∷ 10 ∷ 51 ∷ 32 ∷ 49 ∷ 10 ∷ 56 ∷ 32 ∷ 50 ∷ 10
          ∷ 0 ∷ 3 ∷ W;
    }
    -- Save on A: with disks 0, 1, 3, 4 and 8 erased disk 8 comes back and the others keep their bytes; where disk 2 then holds 7, all
    -- erased blocks become 0.
    ∷ record {
      number = 0;
      computed =
          rescued two (9 ∷ 8 ∷ 3 ∷ 7 ∷ 6 ∷ 12 ∷ 5 ∷ 10 ∷ 4 ∷ []) (1 ∷ 1 ∷ 0 ∷ 1 ∷ 1 ∷ 0 ∷ 0 ∷ 0 ∷ 1 ∷ [])
          ++ rescued two (9 ∷ 8 ∷ 7 ∷ 7 ∷ 6 ∷ 12 ∷ 5 ∷ 10 ∷ 4 ∷ []) (1 ∷ 1 ∷ 0 ∷ 1 ∷ 1 ∷ 0 ∷ 0 ∷ 0 ∷ 1 ∷ []);
      expected = 0 ∷ 1 ∷ 9 ∷ 8 ∷ 3 ∷ 7 ∷ 6 ∷ 12 ∷ 5 ∷ 10 ∷ 15 ∷ 7 ∷ 99 ∷ 0 ∷ 0 ∷ 7 ∷ 0 ∷ 0 ∷ 12 ∷ 5 ∷ 10 ∷ 0 ∷ [];
    }
    -- One wanted disk. With disks 1, 2, 3, 4 and 6 erased, 4 takes 6 by 2, 3 by 16, 4 by 1. With 0, 1 and 3 erased, 0 takes a repair more
    -- by either stripe, so its row is taken: 1 by 17, 0 by 0. With 0 and 1 erased, 1 takes none more by its column: 1 by 17.
    ∷ record {
      number = 0;
      computed =
          planned_for two (0 ∷ 1 ∷ 1 ∷ 1 ∷ 1 ∷ 0 ∷ 1 ∷ 0 ∷ 0 ∷ []) 4 ++ planned_for two (1 ∷ 1 ∷ 0 ∷ 1 ∷ 0 ∷ 0 ∷ 0 ∷ 0 ∷ 0 ∷ []) 0
          ++ planned_for two (1 ∷ 1 ∷ 0 ∷ 0 ∷ 0 ∷ 0 ∷ 0 ∷ 0 ∷ 0 ∷ []) 1;
      expected =
          0 ∷ 3 ∷ 1 ∷ 1 ∷ 6 ∷ 2 ∷ 2 ∷ 3 ∷ 16 ∷ 3 ∷ 4 ∷ 1 ∷ 0 ∷ replicate 87 0 ++ 0 ∷ 2 ∷ 1 ∷ 1 ∷ 1 ∷ 17 ∷ 2 ∷ 0 ∷ 0 ∷ 0 ∷ replicate 90 0
          ++ 0 ∷ 1 ∷ 1 ∷ 1 ∷ 1 ∷ 17 ∷ 0 ∷ replicate 93 0;
    }
    -- Of the fatal loss of 0, 1, 3, 4 and 8 disk 8 is reached, by 2. Disk 0 is not: 6, with plan's count and loop. Disk 2, which is
    -- present, and disk 9, which the grid has not, get 15.
    ∷ record {
      number = 0;
      computed =
          planned_for two (1 ∷ 1 ∷ 0 ∷ 1 ∷ 1 ∷ 0 ∷ 0 ∷ 0 ∷ 1 ∷ []) 8 ++ planned_for two (1 ∷ 1 ∷ 0 ∷ 1 ∷ 1 ∷ 0 ∷ 0 ∷ 0 ∷ 1 ∷ []) 0
          ++ planned_for two (1 ∷ 1 ∷ 0 ∷ 1 ∷ 1 ∷ 0 ∷ 0 ∷ 0 ∷ 1 ∷ []) 2 ++ planned_for two (1 ∷ 1 ∷ 0 ∷ 1 ∷ 1 ∷ 0 ∷ 0 ∷ 0 ∷ 1 ∷ []) 9;
      expected =
          0 ∷ 1 ∷ 1 ∷ 1 ∷ 8 ∷ 2 ∷ 0 ∷ replicate 93 0
          ++ 6 ∷ 4 ∷ 2 ∷ 1 ∷ 0 ∷ 0 ∷ 2 ∷ 1 ∷ 17 ∷ 3 ∷ 4 ∷ 1 ∷ 4 ∷ 3 ∷ 16 ∷ 0 ∷ replicate 84 0
          ++ 15 ∷ 99 ∷ replicate 98 9 ++ 15 ∷ 99 ∷ replicate 98 9;
    }
    ∷ []

-- Every case holds.
pub blocks_hold : map (λ (c : Case). c.computed) block_cases ≡ map (λ (c : Case). c.expected) block_cases
unfolding block_cases sector_at sectored at_position sector_entry rising sector_repairs of_position fatal_position sector_tests sector_fits sectors_fit map_bytes one_tests sheets_of sheet_at repair_sheets blank_sheets cycle_sheets outcome_position sheets_entries chains_tests sheets_tests on_side side_repairs serves takes_lower wanted_stripe wanted_repairs can_be_wanted plan_disk_tests disk_outcome disk_sheet plan_disk_outcome plan_disk_sheet seal_status seal_array encoded encoded_byte write_status write_array write_tests written written_byte is_parity_of refusal array_tests side_fits size_fits block_fits array_bytes array_of disks across down rows columns disk_at is_data row_data column_data cell byte whole xsum ◌⊕◌ tabulate gate every bit count lowest among on sum_over stripe_sum sums_to_zero grid layout_of map_fits erasures without alone allowed first_allowed some_allowed next_disk repair_of peel repairs after residual residual_count lost fatal changed sum_of_others repaired rebuilt zeroed consistent least price too_much way_costs through_cost on_cheapest on_smallest partner first_of other_than trace lowest_of cycle_of shown_cycle number_bytes number_at chain_bytes sheet_of blank_sheet sheet_tests plan_tests loss_outcome loss_sheets plan_outcome plan_sheets outcome_status outcome_count map_after clear loss_told contradiction repairs_made turn_repairs contradicts turn_of buffer_tests rebuild_tests rebuild_refusal rebuild_turn entry_at next_number visited chain_numbers within different chain_tests on_chain no_leftovers entries_at chain_entries tidy_tests tidy_status tidy_form tidy_sheet all_allowed clears list_tests follow_tests follow_status follow_outcome follow_array united part_by part joined undetermined determined survivor_sum part_sum parts_cancel saved_byte saved map_tests save_tests save_status save_answer save_array saving_status saving_count rectangle digit decimal repair_word fatal_word refused_word entry_lines listed listing
blocks_hold = refl

-- ---- blocks of two sectors

-- The sealed array that has A's bytes at position 0 and at position 1 those of the data 1 0 / 0 0, both sectors of disk 0 first.
T : List ℕ
T = 1 ∷ 1 ∷ 2 ∷ 0 ∷ 3 ∷ 1 ∷ 4 ∷ 0 ∷ 8 ∷ 0 ∷ 12 ∷ 0 ∷ 5 ∷ 1 ∷ 10 ∷ 0 ∷ 15 ∷ 1 ∷ []

-- Disks 0, 2 and 6 erased at position 0, as in case 3, and disks 0, 4 and 8 at position 1, as in case 6; T with other bytes there, and the
-- sheets of the two positions.
loss_t : List ℕ
loss_t = 1 ∷ 1 ∷ 0 ∷ 0 ∷ 1 ∷ 0 ∷ 0 ∷ 0 ∷ 0 ∷ 1 ∷ 0 ∷ 0 ∷ 1 ∷ 0 ∷ 0 ∷ 0 ∷ 0 ∷ 1 ∷ []

spots_t : List ℕ
spots_t = 7 ∷ 7 ∷ 2 ∷ 0 ∷ 7 ∷ 1 ∷ 4 ∷ 0 ∷ 8 ∷ 7 ∷ 12 ∷ 0 ∷ 7 ∷ 1 ∷ 10 ∷ 0 ∷ 15 ∷ 7 ∷ []

sheet0 : List ℕ
sheet0 = 1 ∷ 1 ∷ 2 ∷ 18 ∷ 2 ∷ 0 ∷ 0 ∷ 3 ∷ 6 ∷ 2 ∷ 0 ∷ replicate 87 0

sheet1 : List ℕ
sheet1 = 1 ∷ 1 ∷ 0 ∷ 0 ∷ 2 ∷ 4 ∷ 1 ∷ 3 ∷ 8 ∷ 2 ∷ 0 ∷ replicate 87 0

-- Disk 4 erased at position 0, and disks 0, 2, 6 and 8 at position 1, as in case 4; T with other bytes there, and the sheets, of which that
-- of position 0 is zero and that of position 1 shows the loop.
fatal_t : List ℕ
fatal_t = 0 ∷ 1 ∷ 0 ∷ 0 ∷ 0 ∷ 1 ∷ 0 ∷ 0 ∷ 1 ∷ 0 ∷ 0 ∷ 0 ∷ 0 ∷ 1 ∷ 0 ∷ 0 ∷ 0 ∷ 1 ∷ []

gone_t : List ℕ
gone_t = 1 ∷ 7 ∷ 2 ∷ 0 ∷ 3 ∷ 7 ∷ 4 ∷ 0 ∷ 7 ∷ 0 ∷ 12 ∷ 0 ∷ 5 ∷ 7 ∷ 10 ∷ 0 ∷ 15 ∷ 7 ∷ []

loop_sheets : List ℕ
loop_sheets = replicate 98 0 ++ 2 ∷ 1 ∷ 0 ∷ 0 ∷ 2 ∷ 2 ∷ 18 ∷ 3 ∷ 8 ∷ 2 ∷ 4 ∷ 6 ∷ 16 ∷ 0 ∷ replicate 84 0

unfoldable pub sector_cases : List Case
unfolding two T loss_t spots_t sheet0 sheet1 fatal_t gone_t loop_sheets planned turned restored followed
sector_cases =
    -- No position is fatal: T is restored by six repairs, and each position has its own sheet.
    record {
      number = 0;
      computed = planned two 2 loss_t ++ restored two 2 spots_t loss_t;
      expected = 0 ∷ 6 ∷ 99 ∷ sheet0 ++ sheet1 ++ 0 ∷ 6 ∷ T ++ replicate 18 0 ++ sheet0 ++ sheet1;
    }
    -- Position 1 is fatal: 4 are lost there. Nothing else changes, though position 0 is not fatal.
    ∷ record {
      number = 0;
      computed = planned two 2 fatal_t ++ restored two 2 gone_t fatal_t;
      expected = 6 ∷ 4 ∷ 1 ∷ loop_sheets ++ 6 ∷ 4 ∷ gone_t ++ fatal_t ++ loop_sheets;
    }
    -- There look hands out disk 1, at 2 in the array, and not disk 4, of which one sector is erased.
    ∷ record {
      number = 0;
      computed =
          look_offset two 2 1 gone_t fatal_t 1 99 ∷ look_length two 2 1 gone_t fatal_t 1
          ∷ look_offset two 2 1 gone_t fatal_t 4 99 ∷ look_length two 2 1 gone_t fatal_t 4 ∷ [];
      expected = 2 ∷ 2 ∷ 99 ∷ 0 ∷ [];
    }
    -- The first loss in turns of four: the first takes all of position 0 and disk 0 at position 1, the second disks 4 and 8 at position 1.
    ∷ record {
      number = 0;
      computed =
          turned two 2 4 spots_t loss_t
          ++ turned two 2 4 (1 ∷ 1 ∷ 2 ∷ 0 ∷ 3 ∷ 1 ∷ 4 ∷ 0 ∷ 8 ∷ 7 ∷ 12 ∷ 0 ∷ 5 ∷ 1 ∷ 10 ∷ 0 ∷ 15 ∷ 7 ∷ [])
          (replicate 9 0 ++ 1 ∷ replicate 7 0 ++ 1 ∷ []);
      expected =
          0 ∷ 4 ∷ 1 ∷ 1 ∷ 2 ∷ 0 ∷ 3 ∷ 1 ∷ 4 ∷ 0 ∷ 8 ∷ 7 ∷ 12 ∷ 0 ∷ 5 ∷ 1 ∷ 10 ∷ 0 ∷ 15 ∷ 7 ∷ replicate 9 0 ++ 1 ∷ replicate 7 0 ++ 1 ∷ sheet0
          ++ 1 ∷ 1 ∷ 0 ∷ 0 ∷ 0 ∷ replicate 93 0
          ++ 0 ∷ 2 ∷ T ++ replicate 18 0 ++ 1 ∷ replicate 97 0 ++ 1 ∷ 1 ∷ 4 ∷ 1 ∷ 2 ∷ 8 ∷ 2 ∷ 0 ∷ replicate 90 0;
    }
    -- Follow takes its sheets, and refuses them by 11 in the wrong order. Sectors of no bytes, and of three in a block of two, get 16.
    ∷ record {
      number = 0;
      computed =
          followed two 2 spots_t loss_t (sheet0 ++ sheet1) ++ followed two 2 spots_t loss_t (sheet1 ++ sheet0)
          ++ follow_status two 2 0 spots_t loss_t [] ∷ follow_status two 2 3 spots_t loss_t [] ∷ [];
      expected = 0 ∷ 6 ∷ T ++ 11 ∷ 99 ∷ spots_t ++ 16 ∷ 16 ∷ [];
    }
    ∷ []

-- Every case holds here too.
pub sectors_hold : map (λ (c : Case). c.computed) sector_cases ≡ map (λ (c : Case). c.expected) sector_cases
unfolding sector_cases sector_at sectored at_position sector_entry rising sector_repairs of_position fatal_position sector_tests sector_fits sectors_fit map_bytes sheets_of sheet_at repair_sheets cycle_sheets outcome_position sheets_entries chains_tests sheets_tests refusal array_tests side_fits size_fits block_fits array_bytes disks across down rows columns byte whole xsum ◌⊕◌ tabulate gate every bit count lowest among on sum_over stripe_sum sums_to_zero grid layout_of map_fits erasures without alone allowed first_allowed some_allowed next_disk repair_of peel repairs after residual residual_count lost fatal changed sum_of_others repaired rebuilt consistent least price too_much way_costs through_cost on_cheapest on_smallest partner first_of other_than trace lowest_of cycle_of shown_cycle number_bytes number_at chain_bytes sheet_of blank_sheet sheet_tests plan_tests loss_outcome loss_sheets plan_outcome plan_sheets outcome_status outcome_count map_after clear loss_told repairs_made turn_repairs contradicts turn_of buffer_tests rebuild_tests rebuild_refusal rebuild_turn entry_at next_number visited chain_numbers within different on_chain no_leftovers entries_at chain_entries all_allowed clears list_tests follow_tests follow_status follow_outcome follow_array united part_by part joined undetermined rectangle all_present can_look look_offset look_length
sectors_hold = refl
