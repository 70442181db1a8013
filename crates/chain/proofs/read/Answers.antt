-- `chain::read` meets its contract: each turn reads the next record of the chain and marks it.
-- Assumes nothing.
use native.Mathlib.Omega.{arith}
use borrow.Author.Rules.{rules}
use Rattle.model.specs.Sheet.{narrow}
use Rattle.model.proofs.Chain.{kind_refused}
use Rattle.model.specs.Answers.{number}
use Rattle.chain.specs.Read.{chain_of}
use Rattle.chain.proofs.Listed.{listed-none, listed_small, listed-place, listed_next, listed_all, ring_found, outside_found, answered}
use Rattle.chain.proofs.read.Goals as goal

pub returns-then-sheet-ne-REPAIR_KIND : goal.returns-then-sheet-ne-REPAIR_KIND
unfolding chain_of number
returns-then-sheet-ne-REPAIR_KIND c =
    let (h0, (h1, h2)) = answered _ _ _ 10 (kind_refused narrow _ c.if-sheet-ne-REPAIR_KIND.true) (λ e. omega arith) in
    record {
      chain = h0;
      list = h1;
      marks = h2;
    }

pub loop-disk-init : goal.loop-disk-init
loop-disk-init c =
    let record { sheet_len = long; records_in_bounds = room; records_in_bounds_2 = places; by_index = clear } = c.requires in
    (listed-none _ _ _ long (λ i. (c.type_inv.sheet i).fits) c.if-sheet-ne-REPAIR_KIND.false room places clear, omega arith)

pub returns-then-count-eq-RECORDS : goal.returns-then-count-eq-RECORDS
unfolding chain_of number
returns-then-count-eq-RECORDS c =
    let (h0, (h1, h2)) = answered _ _ _ 13 (ring_found c.loop-disk.invariant.0 _ _ _ c.in-Record.ensures c.if-count-eq-RECORDS.true) (λ e. omega arith) in
    record {
      chain = h0;
      list = h1;
      marks = h2;
    }

pub put-requires : goal.put-requires
put-requires c =
    let (disk, stripe) = listed_small c.loop-disk.invariant.0 _ _ _ c.in-Record.ensures in
    record { k_in_bounds = search rules; disk_bound = disk; stripe_bound = stripe }

pub bounds-marks-number : goal.bounds-marks-number
bounds-marks-number c = listed-place c.loop-disk.invariant.0 _ _ _ c.in-Record.ensures

pub loop-disk-preserved : goal.loop-disk-preserved
loop-disk-preserved c =
    let (read, most) = c.loop-disk.invariant in
    (listed_next read _ _ _ (omega arith) c.in-Record.ensures _ c.put.ensures, omega arith)

pub returns-then-number-eq0 : goal.returns-then-number-eq0
unfolding chain_of number
returns-then-number-eq0 c =
    let (h0, (h1, h2)) = listed_all c.loop-disk.invariant.0 c.if-number-eq0.true in
    record {
      chain = h0;
      list = h1;
      marks = h2;
    }

pub returns : goal.returns
unfolding chain_of number
returns c =
    let (h0, (h1, h2)) = answered _ _ _ 10
    (outside_found c.loop-disk.invariant.0 c.if-number-eq0.false _ c.read.ensures c.in_default.not-Record) (λ e. omega arith) in
    record {
      chain = h0;
      list = h1;
      marks = h2;
    }
