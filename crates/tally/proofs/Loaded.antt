-- The laws of loading: the table and the counts of the erased disks passed so far.
-- Assumes nothing.
use mathlib.Core.Path.{◌≡◌, sym, ◌∙◌, ap, ap₂}
use mathlib.Core.Bool.{Bool, true, false, ◌&&◌, true≢false}
use mathlib.Core.Logic.{⊎_elim}
use mathlib.Core.List.{List, [], ◌∷◌}
use Prim.Native.Nat.{ℕ, ◌+◌, ◌*◌, ◌≤◌, ◌<◌}
use native.Mathlib.Nat.{not-suc-le-zero}
use native.Mathlib.Omega.{arith}
use borrow.Author.Count.{below_more}
use lib.ListN.{length, get_or, set, length-set}
use lib.Seq.{get_or-set_same, get_or-set_other}
use Rattle.stripes.specs.Fold.{count}
use Rattle.stripes.specs.System.{Layout, on}
use Rattle.stripes.specs.Erased.{erasures, without, below}
use Rattle.stripes.proofs.Fold.{count_none, lt_or_le, count_le}
use Rattle.stripes.proofs.Erased.{below_is, below-not, below_all, below_over, below_last, count_less}
use Rattle.stripes.proofs.Degree.{degree}
use Rattle.tally.specs.Tally.{Passed, Counted, Tallied}
use Rattle.tally.proofs.Counted.{Crossed, can_raise, can_raise_next, counted_more}
use Rattle.zeros.specs.Stored.{stored}
use Rattle.zeros.proofs.Stored.{length-stored, get_or-stored}

-- The stripes that the table has for disk i.
abbrev pub pair_at : List ℕ → ℕ → List ℕ
pair_at stripes i = get_or stripes (2 * i) 0 ∷ get_or stripes (2 * i + 1) 0 ∷ []

-- The table with the stripes of disk d written.
abbrev pub entered : List ℕ → (d low high : ℕ) → List ℕ
entered stripes d low high = set (set stripes (2 * d) low) (2 * d + 1) high

module _ (stripes : List ℕ) (d low high : ℕ) where
  pair-other : (i : ℕ) → i < d → pair_at stripes i ≡ pair_at (entered stripes d low high) i
  pair-other i l = ap₂ (λ (a b : ℕ). a ∷ b ∷ []) (kept (2 * i) (omega arith)) (kept (2 * i + 1) (omega arith))
    where
      kept : (j : ℕ) → j < 2 * d → get_or stripes j 0 ≡ get_or (entered stripes d low high) j 0
      kept j h =
          sym (get_or-set_other (set stripes (2 * d) low) (2 * d + 1) j high 0 (λ q. omega arith)
          ∙ get_or-set_other stripes (2 * d) j low 0 (λ q. omega arith))

  pair_same : 2 * d + 1 < length stripes → low ∷ high ∷ [] ≡ pair_at (entered stripes d low high) d
  pair_same fits =
      let long = length-set stripes (2 * d) low in
      sym (ap₂ (λ (a b : ℕ). a ∷ b ∷ [])
      (get_or-set_other (set stripes (2 * d) low) (2 * d + 1) (2 * d) high 0 (λ q. omega arith)
      ∙ get_or-set_same stripes (2 * d) low 0 (omega arith))
      (get_or-set_same (set stripes (2 * d) low) (2 * d + 1) high 0 (omega arith)))

-- The erased disks below d are in the table, and counted; `number` is how many they are.
pub record Loaded (L : Layout) (work : List ℕ) (d : ℕ) (stripes counts : List ℕ) (number : ℕ) : Type 0 where
  pub listed : (i : ℕ) → i < d → erasures work i ≡ true → L.through i ≡ pair_at stripes i
  pub counted : Counted L (below d (erasures work)) counts
  pub numbered : number ≡ count L.disks (below d (erasures work))

-- Nothing is counted in zeros.
pub loaded_none : (L : Layout) (work stripes old : List ℕ) → L.stripe_bound ≤ length old
    → Loaded L work 0 stripes (stored old 0 (length old) (λ i. 0)) 0
loaded_none L work stripes old fits =
    let none : (i : ℕ) → below 0 (erasures work) i ≡ false = λ i. below-not 0 (erasures work) i (omega arith) in
    let same = length-stored old 0 (length old) (λ i. 0) in
    record {
      listed = λ i l. absurd (not-suc-le-zero l);
      counted =
          record {
            stripes_fit = omega arith;
            held = λ s l.
                get_or-stored old 0 (length old) (λ i. 0) s (omega arith) (omega arith) (omega arith)
                ∙ sym (count_none L.disks (λ i w. ap (λ (b : Bool). b && on L i s) (none i)));
          };
      numbered = sym (count_none L.disks (λ i w. none i));
    }

module _ {L : Layout} {work : List ℕ} {d : ℕ} {stripes counts : List ℕ} {number : ℕ} (loaded : Loaded L work d stripes counts number) where
  -- Disks that are present are passed over.
  pub loaded_over : {k : ℕ} → Passed work d k → Loaded L work k stripes counts number
  loaded_over {k} p =
      let same : below k (erasures work) ≡ below d (erasures work) = below_over d k (erasures work) p.after p.none in
      record {
        listed = λ i l h. ⊎_elim (λ w. loaded.listed i w h) (λ w. absurd (true≢false (sym h ∙ p.none i w l))) (lt_or_le i d);
        counted = rw same loaded.counted;
        numbered = loaded.numbered ∙ ap (count L.disks) (sym same);
      }

  -- They are disks.
  pub loaded_few : number ≤ L.disks
  loaded_few = let e = loaded.numbered in let few = count_le L.disks (below d (erasures work)) in omega arith

  -- In the end every erased disk is.
  pub loaded_all : L.disks ≤ length work → 2 * length work ≤ length stripes → ((i : ℕ) → L.disks ≤ i → erasures work i ≡ false) → length work ≤ d
      → (number ≡ count L.disks (erasures work)) × Tallied L work stripes counts
  loaded_all disks table inside end =
      let all : below d (erasures work) ≡ erasures work = below_all d (erasures work) (λ i l. inside i (omega arith)) in (
        loaded.numbered ∙ ap (count L.disks) all,
        record {
          table = record { disks_fit = disks; table_fits = table; inside = inside; listed = λ i l. loaded.listed i (omega arith) };
          counted = rw all at loaded.counted;
        },
      )

-- An erased disk is entered and counted.
module _ {L : Layout} {work : List ℕ} {d : ℕ} {stripes counts : List ℕ} {number : ℕ} (loaded : Loaded L work d stripes counts number)
    (erased : erasures work d ≡ true) {low high : ℕ} (x : Crossed L d low high) (few : (e : ℕ → Bool) (s : ℕ) → degree L e s < 256) where
  -- The disks up to it, and that it is one of them.
  abbrev up_to : ℕ → Bool
  up_to = below (d + 1) (erasures work)

  has : up_to d ≡ true
  has = below_is (d + 1) (erasures work) d (omega arith) erased

  before : Counted L (without up_to d) counts
  before = rw (below_last d (erasures work)) at loaded.counted

  pub low-room : (low < length counts) × (get_or counts low 0 + 1 < 256)
  low-room = can_raise x up_to has before (few up_to)

  module _ {counts₁ : List ℕ} (e₁ : counts₁ ≡ set counts low (get_or counts low 0 + 1)) where
    pub high-room : (high < length counts₁) × (get_or counts₁ high 0 + 1 < 256)
    high-room = can_raise_next x up_to has before (few up_to) e₁

    pub loaded_next : 2 * d + 1 < length stripes → {stripes' : List ℕ} → stripes' ≡ entered stripes d low high
        → {counts₂ : List ℕ} → counts₂ ≡ set counts₁ high (get_or counts₁ high 0 + 1) → Loaded L work (d + 1) stripes' counts₂ (number + 1)
    loaded_next fits {stripes'} e₀ e₂ =
        record {
          listed =
              below_more (λ i. erasures work i ≡ true → L.through i ≡ pair_at stripes' i) d
              (λ i l h. rw e₀ (loaded.listed i l h ∙ pair-other stripes d low high i l))
              (λ h. rw e₀ (x.listed ∙ pair_same stripes d low high fits));
          counted = counted_more x up_to has before (few up_to) e₁ e₂;
          numbered =
              ap (λ (n : ℕ). n + 1) (loaded.numbered ∙ ap (count L.disks) (below_last d (erasures work)))
              ∙ count_less L.disks up_to d x.disk has;
        }
