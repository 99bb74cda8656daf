-- What the search for the greatest choice keeps true. Only private functions cite this file.
use Rattle.std.specs.Prelude.{◌≡◌, ℕ, ◌+◌, ◌<◌, Bool, true, false, List, length, Contains, count_by, ◌⊎◌}
use Rattle.equality_types.specs.Choices.{admits_by, is_barred, holders_of, IsGood}

-- the types of some kind don't admit equality, and those that did before were put into a list
pub record Falls (kind : ℕ → Type 0) (old new : List Bool) (before after : List ℕ) : Type 0 where
  pub counted : length new ≡ length old
  pub fewer : (at : ℕ) → admits_by new at ≡ true → admits_by old at ≡ true
  pub fresh : (at : ℕ) → admits_by old at ≡ true → (admits_by new at ≡ true) ⊎ (kind at × Contains after at)
  pub met : (at : ℕ) → kind at → admits_by new at ≡ false
  pub queued : (at : ℕ) → Contains before at → Contains after at
  pub marked : (at : ℕ) → Contains after at
      → Contains before at ⊎ ((at < length new) × (admits_by new at ≡ false))
  pub steps : count_by (λ b. b) new + length after ≡ count_by (λ b. b) old + length before

-- a choice that is no less than any good one, and good but for what holds the types of a list
pub record IsFalling (barred : List Bool) (holders : List (List ℕ)) (choice : List Bool) (work : List ℕ)
    : Type 0 where
  pub counted : length choice ≡ length holders
  pub able : (at : ℕ) → admits_by choice at ≡ true → is_barred barred at ≡ false
  pub parts : (at part : ℕ) → Contains (holders_of holders part) at → admits_by choice at ≡ true
      → (admits_by choice part ≡ true) ⊎ Contains work part
  pub greatest : (other : List Bool) → IsGood barred holders other → (at : ℕ) → admits_by other at ≡ true
      → admits_by choice at ≡ true
  pub fallen : (at : ℕ) → Contains work at → (at < length choice) × (admits_by choice at ≡ false)
