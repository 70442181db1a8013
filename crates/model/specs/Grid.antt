-- The grid of paper 01 as a stripe system, and the sizes of an array.
-- Assumes nothing.
use Rattle.std.specs.Prelude.{Bool, cond, ◌&&◌, List, [], ◌∷◌, ℕ, ◌+◌, ◌*◌, ◌/◌, ◌%◌, leb, ltb, eqb, length, get_or}
use Rattle.stripes.specs.Fold.{every, tabulate}
use Rattle.stripes.specs.System.{Layout}
use Rattle.model.specs.declared.Size.{Size}

-- a data rows and b data columns, with a parity disk to each and one in the corner. Disks are numbered by rows. Row r is
-- stripe r and column c is stripe base + c, the parity disks and the corner included.
unfoldable pub grid : (a b base : ℕ) → Layout
grid a b base =
    record {
      disks = (a + 1) * (b + 1);
      stripe_bound = base + (b + 1);
      through = λ d. (d / (b + 1)) ∷ (base + d % (b + 1)) ∷ [];
    }

-- The size with a data rows and b data columns.
unfoldable pub rectangle : (a b : ℕ) → Size
rectangle a b = record { rows = a; columns = b }

-- Data rows and data columns of a size.
unfoldable pub rows : Size → ℕ
rows z = z.rows

unfoldable pub columns : Size → ℕ
columns z = z.columns

-- Disks in a row of the grid, and in a column.
unfoldable pub across : Size → ℕ
across z = columns z + 1

unfoldable pub down : Size → ℕ
down z = rows z + 1

-- The stripe system of a size, with column c as stripe base + c. A sheet says what its base is, by its format.
unfoldable pub layout_of : Size → (base : ℕ) → Layout
layout_of z base = grid (rows z) (columns z) base

-- The base in what check answers, where no sheet gives one: 16 for every size.
abbrev pub column_base : Size → ℕ
column_base z = 16

-- Disks of the grid.
unfoldable pub disks : Size → ℕ
disks z = down z * across z

-- The disk in row r and column c of the grid.
unfoldable pub disk_at : Size → ℕ → ℕ → ℕ
disk_at z r c = r * across z + c

-- A disk that holds data.
unfoldable pub is_data : Size → ℕ → Bool
is_data z d = ltb (d / across z) (rows z) && ltb (d % across z) (columns z)

-- The bytes of an array with blocks of B bytes.
unfoldable pub array_bytes : Size → ℕ → ℕ
array_bytes z B = disks z * B

-- The array whose disk d has the byte f d p at place p of its block.
unfoldable pub array_of : Size → ℕ → (ℕ → ℕ → ℕ) → List ℕ
array_of z B f = tabulate (array_bytes z B) (λ i. f (i / B) (i % B))

-- What refusal 1 tests: data rows and data columns, each 2 to 15.
unfoldable pub side_fits : ℕ → Bool
side_fits n = leb 2 n && leb n 15

unfoldable pub size_fits : Size → Bool
size_fits z = side_fits (rows z) && side_fits (columns z)

-- What refusal 2 tests: a block of 1 to 4,096 bytes.
unfoldable pub block_fits : ℕ → Bool
block_fits B = leb 1 B && leb B 4096

-- What refusal 16 tests (paper 02, P6): a sector has bytes, and their number divides that of a block; or where the number of sectors is
-- given, it is 1 to 4,096.
unfoldable pub sector_fits : (B w : ℕ) → Bool
sector_fits B w = leb 1 w && eqb (B % w) 0

unfoldable pub sectors_fit : ℕ → Bool
sectors_fit n = leb 1 n && leb n 4096

-- The bytes of a map: one for each disk, or one for each of the n sectors of every disk.
unfoldable pub map_bytes : Size → (n : ℕ) → ℕ
map_bytes z n = disks z * n

-- What refusal 4 tests: a map has so many bytes, each 0, present, or 1, erased (paper 01: marked).
unfoldable pub map_fits : (len : ℕ) → List ℕ → Bool
map_fits len m = eqb (length m) len && every (length m) (λ d. leb (get_or m d 0) 1)

-- What C is told of a size: its disks and the bytes of its array, 0 where a number is out of range. No array has 0 of either.
unfoldable pub disks_or_zero : Size → ℕ
disks_or_zero z = cond (size_fits z) (disks z) 0

unfoldable pub array_bytes_or_zero : Size → ℕ → ℕ
array_bytes_or_zero z B = cond (size_fits z && block_fits B) (array_bytes z B) 0
