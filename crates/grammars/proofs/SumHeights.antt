-- The height of each phrase of the toy grammar is that of its tree, and within the limit.
use Rattle.std.proofs.Common.{◌≡◌, ℕ, zero, suc, ◌+◌, Option, Some, None, is_some, true, false, refl, ◌<◌, arith}
use Rattle.std.proofs.Common.{rules}
use Rattle.grammars.specs.Grammar.{Grammar, above, expect}
use Rattle.grammars.specs.Laws.{Gives}
use Rattle.grammars.specs.Shape.{Shape, levels_of, operator_of, joined_by}
use Rattle.grammars.specs.Sums.{TallShape, g, Level, leaf, over, starts_atom, is_close, atom_after, atom_of, part}
use Rattle.grammars.specs.Sums.{joined, product_of, sum_of, no_level, below, level}
use Rattle.grammars.specs.Answers.{IsMeasured}
use Rattle.grammars.specs.declared.toy.token.Token.{Token}
use Rattle.grammars.specs.declared.toy.token.Token.TheVariants as t
use Rattle.grammars.specs.declared.toy.token.Strength.{Strength}
use Rattle.grammars.specs.declared.toy.token.Strength.TheVariants as s
use Rattle.grammars.specs.declared.toy.tree.Operator.{Operator}
use Rattle.grammars.proofs.Values.{gives_pure, gives_refuse, gives_bind, gives_on, gives_within, gives_wraps}

-- the height is the tree's own, and below the limit
record IsLower (limit : ℕ) (made : TallShape) : Type 0 where
  exact : made.height ≡ levels_of made.value
  low : made.height < limit

-- all phrases of the level are lower than the limit
record IsBelow (limit : ℕ) (b : Level) : Type 0 where
  atom : Gives b.atom (IsLower limit)
  product : Gives b.product (IsLower limit)
  sum : Gives b.sum (IsLower limit)

-- What stands one level above something lower is within the limit.
over_fits : (n : ℕ) (inner : TallShape) → IsLower n inner → (wrap : Shape → Shape)
    → ((x : Shape) → levels_of (wrap x) ≡ 1 + levels_of x) → IsMeasured n (over wrap inner)
over_fits n inner p wrap one = record { exact = rw (one inner.value) (omega arith); low = omega arith }

-- What an atom's first token begins is within the limit.
after_fits : (n : ℕ) (b : Level) → IsBelow n b → (x : Token) → Gives (atom_after b x) (IsMeasured n)
after_fits n b f (t.Number k) =
    gives_pure (leaf (Shape.number k)) (IsMeasured n) (record { exact = refl; low = omega arith })
after_fits n b f (t.Name c) =
    gives_pure (leaf (Shape.name c)) (IsMeasured n) (record { exact = refl; low = omega arith })
after_fits n b f t.Minus =
    gives_bind b.atom (λ inner. Grammar.pure (over Shape.negated inner)) (IsLower n) (IsMeasured n) f.atom
    (λ inner p. gives_pure (over Shape.negated inner) (IsMeasured n)
    (over_fits n inner p Shape.negated (λ x. refl)))
after_fits n b f t.Open =
    gives_bind b.sum (λ inner. Grammar.bind (expect is_close)
    (λ _. Grammar.pure (over Shape.grouped inner))) (IsLower n)
    (IsMeasured n) f.sum
    (λ inner p. gives_bind (expect is_close) (λ _. Grammar.pure (over Shape.grouped inner))
    (λ _. Unit {0}) (IsMeasured n)
    (λ xs next a h. tt)
    (λ _ _. gives_pure (over Shape.grouped inner) (IsMeasured n) (over_fits n inner p Shape.grouped (λ x. refl))))
after_fits n b f t.Plus = gives_refuse (IsMeasured n)
after_fits n b f t.Times = gives_refuse (IsMeasured n)
after_fits n b f t.Slash = gives_refuse (IsMeasured n)
after_fits n b f t.Close = gives_refuse (IsMeasured n)

-- An atom is within the limit.
atom_fits : (n : ℕ) (b : Level) → IsBelow n b → Gives (atom_of b) (IsMeasured n)
atom_fits n b f =
    gives_on starts_atom (atom_after b) Grammar.refuse (IsMeasured n) (λ x _. after_fits n b f x)
    (gives_refuse (IsMeasured n))

-- What stands on each side of an operator is lower than the limit.
part_fits : (n : ℕ) (b : Level) → IsBelow n b → (strength : Strength) → Gives (part b strength) (IsLower n)
part_fits n b f s.Sum = f.product
part_fits n b f s.Product = f.atom

-- Two parts with an operator between them are within the limit, where both are lower.
found_fits : (n : ℕ) (found : Option Operator) (left right : TallShape) → is_some found ≡ true → IsMeasured n left
    → left.height < n → IsLower n right → IsMeasured n (above (joined_by found) left right)
found_fits n (Some op) left right go p room q =
    record { exact = rw (p.exact, q.exact) refl; low = omega (arith, q.low) }
found_fits n None left right go p room q = absurd (cc)

-- Two parts that are joined are as high as they should be.
joined_fits : (n : ℕ) (b : Level) → IsBelow n b → (strength : Strength) (left : TallShape) → IsMeasured n left
    → Gives (joined n b strength left) (IsMeasured n)
unfolding joined
joined_fits n b f strength left p =
    gives_wraps n (λ x. is_some (operator_of strength x)) (λ _. part b strength)
    (λ x left right. joined_by (operator_of strength x) left right) (IsMeasured n) (IsLower n)
    (λ _. part_fits n b f strength)
    (λ x left right go p room q. found_fits n (operator_of strength x) left right go p (search rules) q) left p

-- A product is within the limit.
product_fits : (n : ℕ) (b : Level) → IsBelow n b → Gives (product_of n b) (IsMeasured n)
product_fits n b f =
    gives_bind (atom_of b) (λ first. joined n b s.Product first) (IsMeasured n) (IsMeasured n) (atom_fits n b f)
    (λ first p. joined_fits n b f s.Product first p)

-- A sum is within the limit.
sum_fits : (n : ℕ) (b : Level) → IsBelow n b → Gives (sum_of n b) (IsMeasured n)
sum_fits n b f =
    gives_bind (product_of n b) (λ first. joined n b s.Sum first) (IsMeasured n) (IsMeasured n) (product_fits n b f)
    (λ first p. joined_fits n b f s.Sum first p)

-- What is within a limit is lower than the next.
next_lower : (n : ℕ) (a : g) → Gives a (IsMeasured n) → Gives a (IsLower (suc n))
next_lower n a f xs next made h = let p = f xs next made h in record { exact = p.exact; low = omega (arith, p.low) }

-- Nothing is lower than no level.
none_lower : Gives no_level.atom (IsLower 0)
none_lower = gives_within false Grammar.refuse (IsLower 0) (λ h. absurd (cc))

-- All phrases below a limit are lower than it.
below_fits : (n : ℕ) → IsBelow n (below n)
unfolding below
below_fits zero = record { atom = none_lower; product = none_lower; sum = none_lower }
below_fits (suc n) =
    let f = below_fits n in
    record {
      atom = next_lower n (atom_of (below n)) (atom_fits n (below n) f);
      product = next_lower n (product_of n (below n)) (product_fits n (below n) f);
      sum = next_lower n (sum_of n (below n)) (sum_fits n (below n) f);
    }

-- The height of each sum is that of its tree, and within the limit.
pub sum_measured : (n : ℕ) → Gives (level n).sum (IsMeasured n)
sum_measured n = sum_fits n (below n) (below_fits n)
