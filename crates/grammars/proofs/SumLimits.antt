-- What is refused as a sum under one limit is refused under a wider one.
use Rattle.std.proofs.Common.{ℕ, zero, suc, is_some, ◌≤◌, arith}
use Rattle.grammars.specs.Grammar.{Grammar, expect}
use Rattle.grammars.specs.Wider.{IsWider}
use Rattle.grammars.specs.Shape.{Shape, operator_of, joined_by}
use Rattle.grammars.specs.Sums.{TallShape, Level, over, starts_atom, is_close, atom_after, atom_of, part, joined}
use Rattle.grammars.specs.Sums.{product_of, level_of, below, level}
use Rattle.grammars.specs.declared.toy.token.Token.{Token}
use Rattle.grammars.specs.declared.toy.token.Token.TheVariants as t
use Rattle.grammars.specs.declared.toy.token.Strength.{Strength}
use Rattle.grammars.specs.declared.toy.token.Strength.TheVariants as s
use Rattle.grammars.proofs.Wider.{wider_self, wider_bind, wider_on, wider_deep, wider_wraps}

-- each phrase of the second level is as that of the first, with wider limits
record AreWider (b c : Level) : Type 0 where
  atom : IsWider b.atom c.atom
  product : IsWider b.product c.product
  sum : IsWider b.sum c.sum

-- What an atom's first token begins is wider over a wider level.
after_wider : (b c : Level) → AreWider b c → (x : Token) → IsWider (atom_after b x) (atom_after c x)
after_wider b c w (t.Number n) = wider_self (atom_after b (t.Number n))
after_wider b c w (t.Name n) = wider_self (atom_after b (t.Name n))
after_wider b c w t.Minus =
    let rest : TallShape → Grammar Token TallShape = λ inner. Grammar.pure (over Shape.negated inner) in
    wider_bind b.atom c.atom rest rest w.atom (λ inner. wider_self (rest inner))
after_wider b c w t.Open =
    let rest : TallShape → Grammar Token TallShape =
    λ inner. Grammar.bind (expect is_close) (λ _. Grammar.pure (over Shape.grouped inner)) in
    wider_bind b.sum c.sum rest rest w.sum (λ inner. wider_self (rest inner))
after_wider b c w t.Plus = wider_self Grammar.refuse
after_wider b c w t.Times = wider_self Grammar.refuse
after_wider b c w t.Slash = wider_self Grammar.refuse
after_wider b c w t.Close = wider_self Grammar.refuse

-- What stands on each side of an operator is wider over a wider level.
part_wider : (b c : Level) → AreWider b c → (strength : Strength) → IsWider (part b strength) (part c strength)
part_wider b c w s.Sum = w.product
part_wider b c w s.Product = w.atom

-- What is joined is wider under a wider limit.
joined_wider : (m n : ℕ) (b c : Level) → m ≤ n → AreWider b c → (strength : Strength) (left : TallShape)
    → IsWider (joined m b strength left) (joined n c strength left)
unfolding joined
joined_wider m n b c le w strength left =
    wider_wraps m n (λ x. is_some (operator_of strength x)) (λ _. part b strength) (λ _. part c strength)
    (λ x left right. joined_by (operator_of strength x) left right) left le (λ _. part_wider b c w strength)

-- All phrases are wider under a wider limit.
level_wider : (m n : ℕ) (b c : Level) → m ≤ n → AreWider b c → AreWider (level_of m b) (level_of n c)
level_wider m n b c le w =
    let atom : IsWider (atom_of b) (atom_of c) =
    wider_on starts_atom (atom_after b) (atom_after c) Grammar.refuse Grammar.refuse (after_wider b c w)
    (wider_self Grammar.refuse) in
    let product : IsWider (product_of m b) (product_of n c) =
    wider_bind (atom_of b) (atom_of c) (λ first. joined m b s.Product first) (λ first. joined n c s.Product first)
    atom (joined_wider m n b c le w s.Product) in
    record {
      atom = atom;
      product = product;
      sum = wider_bind (product_of m b) (product_of n c) (λ first. joined m b s.Sum first)
          (λ first. joined n c s.Sum first) product (joined_wider m n b c le w s.Sum);
    }

-- All phrases below a limit are wider below a wider one.
below_wider : (m n : ℕ) → m ≤ n → AreWider (below m) (below n)
unfolding below
below_wider zero n le = record {
  atom = wider_deep Grammar.refuse (below n).atom;
  product = wider_deep Grammar.refuse (below n).product;
  sum = wider_deep Grammar.refuse (below n).sum;
}
below_wider (suc m) zero le = absurd (omega arith)
below_wider (suc m) (suc n) le =
    let less : m ≤ n = omega arith in level_wider m n (below m) (below n) less (below_wider m n less)

-- Sums are wider under a wider limit.
pub sums_wider : (m n : ℕ) → m ≤ n → IsWider (level m).sum (level n).sum
sums_wider m n le = let w = level_wider m n (below m) (below n) le (below_wider m n le) in w.sum
