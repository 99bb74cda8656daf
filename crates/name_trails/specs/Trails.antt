-- What names stand for after bindings: of two bindings of one name the later counts.
use Rattle.std.specs.Prelude.{ℕ, List, [], ◌∷◌, Bool, Option, Some, None, nat_eq, if◌then◌else◌}
use lib.Pointwise.{pointwise}

-- bindings in the order in which they were made: each gives its name an entry
abbrev pub Rows : Type 0 → Type 0
Rows A = List (List ℕ × A)

-- whether two names are one
abbrev pub same : List ℕ → List ℕ → Bool
same a b = pointwise nat_eq a b

-- what a name stands for after bindings, where it stood for this before them
abbrev pub entry_after : {A : Type 0} → Option A → Rows A → List ℕ → Option A
entry_after held [] name = held
entry_after held (row ∷ rows) name = entry_after (if same row.0 name then Some row.1 else held) rows name

-- what the last binding of a name gives it
unfoldable pub last_entry : {A : Type 0} → Rows A → List ℕ → Option A
last_entry rows name = entry_after None rows name
