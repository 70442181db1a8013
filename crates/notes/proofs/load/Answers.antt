-- `notes::load` meets its contract: each turn marks one disk more in a map of zeros.
-- Assumes nothing.
use mathlib.Core.Path.{subst}
use Prim.Native.Nat.{ℕ, ◌+◌, ◌≤◌, ◌<◌}
use native.Mathlib.Omega.{arith}
use borrow.Author.Rules.{rules}
use lib.ListN.{length, get_or, length-set}
use Rattle.notes.specs.Notes.{Loads}
use Rattle.notes.proofs.Noted.{noted-inside, binary_none, binary_set, marked-none, marked_next, marked_all}
use Rattle.notes.proofs.load.Goals.{At-loop-k, In-loop-k}
use Rattle.notes.proofs.load.Goals as goal

pub loop-k-init : goal.loop-k-init
loop-k-init c = let zeros = c.wipe.ensures in (search rules, binary_none _ zeros, marked-none _ zeros _ _)

few : (c : goal.At-loop-k) → get_or c.args.sheet.now 0 0 ≤ 97
few c = c.if-count-gt-ROOM.false

inside : (c : goal.In-loop-k) → get_or c.args.sheet.now (c.loop-k.k + 1) 0 < length c.loop-k.work
inside c =
    let low = noted-inside _ _ c.requires.by_index.1 c.if-count-gt-ROOM.false c.loop-k.k (search rules) in
    let same = c.loop-k.invariant.0 in
    let kept = c.wipe.auto.a in
    omega arith

pub bounds-work-disk : goal.bounds-work-disk
bounds-work-disk c = inside (goal.at.bounds-work-disk c).In-loop-k

pub loop-k-preserved : goal.loop-k-preserved
loop-k-preserved c =
    let (same, binary, marked) = c.loop-k.invariant in
    let place = inside (goal.at.loop-k-preserved c).In-loop-k in (
      simp length-set same,
      binary_set c.loop-k.work _ place binary,
      marked_next _ _ c.loop-k.work same (few (goal.at.loop-k-preserved c).At-loop-k) c.loop-k.k marked (search rules),
    )

pub returns : goal.returns
returns c = λ yes.
    let (same, binary, marked) = c.loop-k.invariant in
    let kept = c.wipe.auto.a in
    subst (λ (N : ℕ). Loads N c.args.sheet.now c.loop-k.work) kept
    (marked_all _ _ c.loop-k.work same (few (goal.at.returns c).At-loop-k) c.loop-k.k marked binary (omega arith))
