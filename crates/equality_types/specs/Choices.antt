-- Which of some types admit equality, as far as possible together. The Definition of Standard ML (Revised), section 4.9.
use Rattle.std.specs.Prelude.{◌≡◌, ℕ, ◌<◌, Bool, true, false, List, [], length, slice_index_or, All, Contains}

-- a type can't admit equality, whatever the others do
abbrev pub is_barred : List Bool → ℕ → Bool
is_barred barred at = slice_index_or barred at false

-- the types that hold a type, each of which can admit equality only where that does
abbrev pub holders_of : List (List ℕ) → ℕ → List ℕ
holders_of holders part = slice_index_or holders part []

-- a type admits equality by a choice
abbrev pub admits_by : List Bool → ℕ → Bool
admits_by choice at = slice_index_or choice at false

-- the lists have types alone
abbrev pub AllAreTypes : List (List ℕ) → Type 0
AllAreTypes holders = All (λ list. All (λ at. at < length holders) list) holders

-- a choice under which each type that admits equality can: nothing bars it, and all types that it holds admit equality
pub record IsGood (barred : List Bool) (holders : List (List ℕ)) (choice : List Bool) : Type 0 where
  pub counted : length choice ≡ length holders
  pub able : (at : ℕ) → admits_by choice at ≡ true → is_barred barred at ≡ false
  pub parts : (at part : ℕ) → Contains (holders_of holders part) at → admits_by choice at ≡ true
      → admits_by choice part ≡ true

-- a good choice, such that no type admits equality by another good one that doesn't by this
pub record IsGreatest (barred : List Bool) (holders : List (List ℕ)) (choice : List Bool) : Type 0 where
  pub good : IsGood barred holders choice
  pub greatest : (other : List Bool) → IsGood barred holders other → (at : ℕ) → admits_by other at ≡ true
      → admits_by choice at ≡ true
