-- `follow::judge::read_all` meets its contract: after p turns the sheets of the first p positions are read.
-- Assumes nothing.
use mathlib.Core.Path.{◌≡◌, ◌∙◌, ap, subst, refl}
use mathlib.Core.List.{List}
use Prim.Native.Nat.{ℕ}
use native.Mathlib.Omega.{arith}
use borrow.Author.Rules.{rules}
use Rattle.model.specs.Sheet.{narrow, sheet_at}
use Rattle.model.specs.Chain.{clean_refusal}
use Rattle.chain.specs.Read.{chain_read}
use Rattle.sheet.proofs.Part.{part_sheet}
use Rattle.chain.proofs.Place.{part-long}
use Rattle.follow.proofs.Judged.{SoFar, none_read, more_few, more_read, more_refused, all_refused, all_read}
use Rattle.follow.proofs.judge.read_all.Goals.{After-loop-p, After-read_clean-own}
use Rattle.follow.proofs.judge.read_all.Goals.{in-Ok, in-Err}
use Rattle.model.specs.Answers.{number_if}
use Rattle.refusal.proofs.Numbers.{number_some}
use Rattle.chain.specs.Read.{chain_of}
use Rattle.follow.proofs.judge.read_all.Goals as goal

pub loop-p-init : goal.loop-p-init
unfolding number_if
loop-p-init c = (search rules, none_read _ _)

pub read_clean-own-requires-clause-sheet_len : goal.read_clean-own-requires-clause-sheet_len
read_clean-own-requires-clause-sheet_len c = part-long c.args.sectors c.args.sheets.now c.requires.sheets_len c.loop-p.p c.loop-p-test.true

-- What reading the sheet of the position has answered.
answered : (c : goal.After-read_clean-own) →
    let own = sheet_at narrow c.loop-p.p c.args.sheets.now in
    chain_of c.read_clean-own.result ≡ chain_read (clean_refusal narrow own) own
answered c =
    c.read_clean-own.ensures.chain
    ∙ ap (λ (t : List ℕ). chain_read (clean_refusal narrow t) t) (part_sheet narrow c.loop-p.p c.args.sheets.now)

pub overflow_add-number : goal.overflow_add-number
unfolding chain_of
overflow_add-number c =
    let most = more_few _ _ _ _ _ c.loop-p.invariant.1 _ (answered (goal.at.overflow_add-number c).After-read_clean-own) _ (ap chain_of c.in-Ok.is) in
    let so_far = c.loop-p.invariant.1.few in
    search rules

pub loop-p-preserved : goal.loop-p-preserved
unfolding number_if chain_of
loop-p-preserved c =
    let so_far = c.loop-p.invariant.1 in
    elim c.match-own.branch [
      | in-Ok w ↦ (
        search rules,
        rw (w.refused-is, w.number-is) (more_read _ _ _ _ _ so_far _ (answered (goal.at.loop-p-preserved c).After-read_clean-own) _ (ap chain_of w.in-Ok.is)),
      )
      | in-Err w ↦ (
        search rules,
        rw w.number-is
            (more_refused _ _ _ _ _ so_far _ (answered (goal.at.loop-p-preserved c).After-read_clean-own) _ (ap chain_of w.in-Err.is) _
            (ap number_if w.refused-is ∙ w.first_of.ensures)),
      )
    ]

-- All sheets are read.
finished : (c : goal.After-loop-p) →
    SoFar c.args.sectors c.args.sheets.now c.args.sectors (number_if c.loop-p.refused) c.loop-p.number
finished c =
    let l = c.loop-p in
    let all : l.p ≡ c.args.sectors = omega arith in
    subst (λ (p : ℕ). SoFar c.args.sectors c.args.sheets.now p (number_if l.refused) l.number) all l.invariant.1

pub returns-in-Some : goal.returns-in-Some
unfolding chain_of number_if
returns-in-Some c =
    let l = c.loop-p in
    let so_far = rw c.in-Some.is at (finished (goal.at.returns-in-Some c).After-loop-p) in
    all_refused c.args.sectors c.args.sheets.now _ l.number so_far (number_some _)

pub returns-in-None : goal.returns-in-None
unfolding chain_of number_if
returns-in-None c =
    let l = c.loop-p in
    let so_far = rw c.in-None.is at (finished (goal.at.returns-in-None c).After-loop-p) in
    all_read c.args.sectors c.args.sheets.now _ l.number so_far refl
