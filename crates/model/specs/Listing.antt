-- The text that the listing program prints for what it reads.
-- Assumes nothing.
use Rattle.std.specs.Prelude.{cond, List, [], ◌∷◌, ◌++◌, ℕ, ◌+◌, ◌/◌, ◌%◌, eqb, ltb, length, get_or, drop}
use Rattle.stripes.specs.Repair.{Entry, repairs, fatal}
use Rattle.stripes.specs.Erased.{erasures}
use Rattle.stripes.specs.Smallest.{shown_cycle}
use Rattle.model.specs.Grid.{rectangle}
use Rattle.model.specs.Refusal.{refusal}
use Rattle.model.specs.Sheet.{narrow, sheet_bytes}
use Rattle.model.specs.Plan.{one_tests, sheet_layout}
use Rattle.model.specs.declared.Size.{Size}

-- A decimal digit as a character, and a number below 1000 in decimal.
unfoldable pub digit : ℕ → ℕ
digit k = 48 + k

unfoldable pub decimal : ℕ → List ℕ
decimal k =
    cond (ltb k 10) (digit k ∷ [])
    (cond (ltb k 100) (digit (k / 10) ∷ digit (k % 10) ∷ []) (digit (k / 100) ∷ digit (k / 10 % 10) ∷ digit (k % 10) ∷ []))

-- The words `repair `, `fatal ` and `refused `.
unfoldable pub repair_word : List ℕ
repair_word = 114 ∷ 101 ∷ 112 ∷ 97 ∷ 105 ∷ 114 ∷ 32 ∷ []

unfoldable pub fatal_word : List ℕ
fatal_word = 102 ∷ 97 ∷ 116 ∷ 97 ∷ 108 ∷ 32 ∷ []

unfoldable pub refused_word : List ℕ
refused_word = 114 ∷ 101 ∷ 102 ∷ 117 ∷ 115 ∷ 101 ∷ 100 ∷ 32 ∷ []

-- One line for each disk with its stripe. Every line ends with one line feed.
unfoldable pub entry_lines : List Entry → List ℕ
entry_lines [] = []
entry_lines (r ∷ rs) = decimal r.disk ++ 32 ∷ decimal r.stripe ++ 10 ∷ entry_lines rs

-- The heading, a word and the number of lines that follow, and these lines. For a fatal loss that is the number of disks in the
-- loop, which can be fewer than are lost.
unfoldable pub listed : List ℕ → List Entry → List ℕ
listed word rs = word ++ decimal (length rs) ++ 10 ∷ entry_lines rs

-- The input is the data rows in one byte, the data columns in the next, each 0 where it is missing, and then the map. The lines
-- number the stripes as the sheets do.
unfoldable pub listing : List ℕ → List ℕ
listing input =
    let z : Size = rectangle (get_or input 0 0) (get_or input 1 0) in
    let m : List ℕ = drop 2 input in
    let k : ℕ = refusal (one_tests z m (sheet_bytes narrow)) in
    cond (eqb k 0)
    (cond (fatal (sheet_layout z) (erasures m)) (listed fatal_word (shown_cycle (sheet_layout z) (erasures m)))
    (listed repair_word (repairs (sheet_layout z) (erasures m))))
    (refused_word ++ decimal k ++ 10 ∷ [])
