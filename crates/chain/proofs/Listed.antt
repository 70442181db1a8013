-- The chain of a sheet of paper 01, read into a list and marked record by record.
-- Assumes nothing.
use mathlib.Core.Path.{◌≡◌, refl, sym, ◌∙◌, ap, ap₂, subst}
use mathlib.Core.Bool.{Bool, false, ◌||◌}
use mathlib.Core.Logic.{⊎_elim}
use mathlib.Core.List.{List, [], ◌∷◌, ◌++◌}
use Prim.Native.Nat.{ℕ, ◌+◌, ◌≤◌, ◌<◌}
use native.Mathlib.Nat.{pos_of_ne-zero}
use native.Mathlib.Omega.{arith}
use borrow.Author.Tests.{eq-eqb, ne_eqb, eqb-true, eqb-false}
use lib.Dec.{eqb}
use lib.ListN.{length, get_or, set, length-append, length-set}
use lib.Seq.{get_or-set_same, get_or-set_other}
use Rattle.stripes.specs.System.{among}
use Rattle.stripes.specs.Repair.{Entry}
use Rattle.stripes.proofs.Fold.{by_cases, lt_or_le}
use Rattle.model.specs.Sheet.{narrow, number_at, record_at}
use Rattle.model.specs.Chain.{entry_at, chain_numbers, chain_refusal, entries_at, chain_entries}
use Rattle.model.proofs.Visited.{among_snoc, entries_append, entries-length}
use Rattle.model.proofs.Chain.{Walked, walked-first, walked_next, walked_end, walked_outside, walked_ring}
use Rattle.entries.specs.Listed.{word_of, listed}
use Rattle.entries.proofs.Words.{listed_put}
use Rattle.reader.specs.Found.{found_at}
use Rattle.chain.specs.Read.{marked, chain_read}
use Rattle.reader.specs.declared.Found.{Found}
use Rattle.reader.specs.declared.Found.TheVariants.{Record, End, Outside}
use Rattle.chain.specs.Read.{Chain}
use Rattle.chain.specs.Read.{Records, Refused}
use Rattle.reader.proofs.Says.{Says, found_says}

-- What the answer to a whole sheet promises of the list l and the marks m.
abbrev pub Promised : List ℕ → Chain → (l m : List ℕ) → Type 0
Promised s r l m =
    (r ≡ chain_read (chain_refusal narrow s) s)
    × ((chain_refusal narrow s ≡ 0 → listed l (length (chain_entries narrow s)) ≡ chain_entries narrow s)
    × (chain_refusal narrow s ≡ 0 → (j : ℕ) → marked m j ≡ among j (chain_numbers narrow s)))

-- The first k records of the chain, those with the numbers ks, stand in the list and are marked, and `number` comes next.
pub record Listed (s l m : List ℕ) (number k : ℕ) : Type 0 where
  pub long : length s ≡ 98
  pub bytes : (i : ℕ) → get_or s i 0 < 256
  pub kind : get_or s 0 0 ≡ 1
  pub room : 32 ≤ length l
  pub places : 32 < length m
  pub ks : List ℕ
  pub counted : length ks ≡ k
  pub walked : Walked narrow s number ks
  pub lists : listed l k ≡ entries_at narrow s ks
  pub marks : (j : ℕ) → marked m j ≡ among j ks

pub listed-none : (s l m : List ℕ) → length s ≡ 98 → ((i : ℕ) → get_or s i 0 < 256) → get_or s 0 0 ≡ 1 → 32 ≤ length l → 32 < length m
    → ((j : ℕ) → marked m j ≡ false) → Listed s l m (get_or s 1 0) 0
unfolding listed entries_at among
listed-none s l m long bytes kind room places clear =
    record {
      long = long;
      bytes = bytes;
      kind = kind;
      room = room;
      places = places;
      ks = [];
      counted = refl;
      walked = walked-first narrow s;
      lists = refl;
      marks = clear;
    }

-- One mark more.
mark_next : (m : List ℕ) (number : ℕ) → number < length m → (ks : List ℕ) → ((j : ℕ) → marked m j ≡ among j ks)
    → (j : ℕ) → marked (set m number 1) j ≡ among j (ks ++ (number ∷ []))
unfolding marked
mark_next m number inside ks marks j =
    by_cases (λ (b : Bool). eqb (get_or (set m number 1) j 0) 1 ≡ (b || among j ks)) (eqb j number)
    (λ e. let is = eqb-true j number e in eq-eqb _ 1 (ap (λ (i : ℕ). get_or (set m number 1) i 0) is ∙ get_or-set_same m number 1 0 inside))
    (λ e. ap (λ (v : ℕ). eqb v 1) (get_or-set_other m number j 1 0 (eqb-false j number e)) ∙ marks j)
    ∙ sym (among_snoc j ks number)

module _ {s l m : List ℕ} {number k : ℕ} (p : Listed s l m number k) where
  -- Disk and stripe of a record are bytes.
  pub listed_small : (d t n : ℕ) → Record d t n ≡ found_at s number → (d < 65536) × (t < 65536)
  unfolding entry_at number_at
  listed_small d t n e =
      let is = (found_says s number (Record d t n) p.long e).2 in (
        subst (λ (r : Entry). r.disk < 65536) is (omega (arith, p.bytes (record_at narrow number))),
        subst (λ (r : Entry). r.stripe < 65536) is (omega (arith, p.bytes (record_at narrow number + 1))),
      )

  -- Its number has a mark.
  pub listed-place : (d t n : ℕ) → Record d t n ≡ found_at s number → number < length m
  listed-place d t n e = let most = (found_says s number (Record d t n) p.long e).1 in let places = p.places in omega arith

  pub listed_next : (d t n : ℕ) → k < 32 → Record d t n ≡ found_at s number
      → (l' : List ℕ) → l' ≡ set l k (word_of d t) → Listed s l' (set m number 1) n (k + 1)
  unfolding entries_at
  listed_next d t n more e l' put =
      let (some, most, is, next) = found_says s number (Record d t n) p.long e in
      let (low, high) = listed_small d t n e in
      let count = p.counted in
      record {
        long = p.long;
        bytes = p.bytes;
        kind = p.kind;
        room = rw (put, length-set) p.room;
        places = rw length-set p.places;
        ks = p.ks ++ (number ∷ []);
        counted = length-append p.ks (number ∷ []) ∙ ap (λ (n : ℕ). n + 1) count;
        walked = rw (← next) (walked_next narrow s number p.ks p.walked (omega arith) some most);
        lists = rw (put, listed_put l k d t (omega (arith, p.room)) low high)
            (ap₂ (λ (v : List Entry) (r : Entry). v ++ (r ∷ [])) p.lists (sym is) ∙ sym (entries_append narrow s p.ks (number ∷ [])));
        marks = mark_next m number (listed-place d t n e) p.ks p.marks;
      }

  -- The chain has ended: it fits, and all of it stands in the list and is marked.
  pub listed_all : number ≡ 0 → Promised s (Records k) l m
  unfolding chain_read chain_entries
  listed_all z =
      let (fits, is) = walked_end p.walked z p.kind in
      let all : length (entries_at narrow s (chain_numbers narrow s)) ≡ k = entries-length narrow s (chain_numbers narrow s) ∙ ap length is ∙ p.counted in (
        rw (fits, all),
        (λ e. ap (listed l) all ∙ p.lists ∙ ap (entries_at narrow s) (sym is), λ e j. p.marks j ∙ ap (among j) (sym is)),
      )

  -- The next number is none of a record.
  pub number_outside : 32 < number → chain_refusal narrow s ≡ 10
  number_outside = walked_outside p.walked

  -- It has not ended, and the next number is one of a record: so all 32 are read.
  pub ring_read : (number ≡ 0 → ⊥) → number ≤ 32 → 32 ≤ k → chain_refusal narrow s ≡ 13
  ring_read some most all = let count = p.counted in walked_ring p.walked p.kind (omega arith) (pos_of_ne-zero some) most

  -- So a record found after these 32 is reached twice.
  pub ring_found : (d t n : ℕ) → Record d t n ≡ found_at s number → k ≡ 32 → chain_refusal narrow s ≡ 13
  ring_found d t n e all = let (some, most, is, next) = found_says s number (Record d t n) p.long e in ring_read (λ z. omega arith) most (omega arith)

  -- Where no record was found, the number is not one of a record.
  pub none_found : (number ≡ 0 → ⊥) → number ≤ 32 → (f : Found) → f ≡ found_at s number
      → ((disk stripe following : ℕ) → f ≡ Record disk stripe following → ⊥) → ⊥
  none_found some most f e other = go f other (found_says s number f p.long e)
    where
      go : (f : Found) → ((disk stripe following : ℕ) → f ≡ Record disk stripe following → ⊥) → Says s number f → ⊥
      go (Record d t m) h w = h d t m refl
      go End h w = some w
      go Outside h w = omega arith

  -- So it exceeds 32 where the chain has not ended.
  pub outside_found : (number ≡ 0 → ⊥) → (f : Found) → f ≡ found_at s number
      → ((disk stripe following : ℕ) → f ≡ Record disk stripe following → ⊥) → chain_refusal narrow s ≡ 10
  outside_found some f e other = ⊎_elim number_outside (λ most. absurd (none_found some most f e other)) (lt_or_le 32 number)

-- A sheet that is refused by a number is answered by it.
pub answered : (s l m : List ℕ) (k : ℕ) → chain_refusal narrow s ≡ k → (k ≡ 0 → ⊥) → Promised s (Refused k) l m
unfolding chain_read
answered s l m k e some = (rw (e, ne_eqb k 0 some), (λ none. absurd (some (sym e ∙ none)), λ none. absurd (some (sym e ∙ none))))
