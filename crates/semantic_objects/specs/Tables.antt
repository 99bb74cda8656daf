-- Finite maps from names, as tables in strictly rising byte order of names.
-- The Definition of Standard ML (Revised), sections 4.2 and 4.3.
use Rattle.std.specs.Prelude.{ℕ, List, [], ◌∷◌, map, Option, IsTrue}
use Rattle.std.specs.Ordering.{nat_cmp}
use Rattle.std.specs.Cmp.Lexicographic.{slice_cmp}
use Rattle.std.specs.FinMap.{find, put, is_sorted}
use Rattle.std.specs.declared.cmp.Ordering.{Ordering}

-- names are ordered by their bytes
abbrev pub by_bytes : List ℕ → List ℕ → Ordering
by_bytes = slice_cmp nat_cmp

abbrev pub Table : Type 0 → Type 0
Table A = List (List ℕ × A)

-- the names rise strictly, so each stands once
abbrev pub IsTable : {A : Type 0} → Table A → Type 0
IsTable table = IsTrue (is_sorted by_bytes table)

-- the names of a table in their order
abbrev pub names_of : {A : Type 0} → Table A → List (List ℕ)
names_of table = map (λ row. row.0) table

-- what a table has under a name
abbrev pub entry : {A : Type 0} → List ℕ → Table A → Option A
entry name table = find by_bytes name table

-- the table in which that name has that entry, and all others have what they had
abbrev pub with_entry : {A : Type 0} → List ℕ → A → Table A → Table A
with_entry name x table = put by_bytes name x table

-- a table modified by rows, one after another: of two rows of one name the later counts
abbrev pub with_all : {A : Type 0} → Table A → Table A → Table A
with_all [] table = table
with_all (row ∷ rows) table = with_all rows (with_entry row.0 row.1 table)
