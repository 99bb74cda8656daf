-- The module of a unit: its last component up to the first dot.
use Rattle.std.proofs.Common.{◌≡◌, ◌∙◌, ap, sym, refl, ℕ, ◌+◌, ◌-◌, ◌<◌, ◌≤◌, ◌==◌, Bool, true, false, not, List, [], ◌∷◌, ◌++◌, length, take, drop, map, arith}
use Rattle.std.specs.List.{before_first, after_last, suffix_len, prefix_len, position_or_len}
use Rattle.cm_base.specs.ByteClasses.{is_identifier_byte, is_letter}
use Rattle.cm_base.specs.Derived.{with_capital, module_of}
use Rattle.bundled_tools.specs.Lines.{module_name, name_byte}

-- a module's name by its parts
pub name_of_parts : (unit component part : List ℕ) → component ≡ after_last (λ byte. byte == 47) unit
    → part ≡ before_first (λ byte. byte == 46) component → module_name unit ≡ with_capital (map name_byte part)
unfolding module_name
name_of_parts unit component part a b =
    ap (λ (c : List ℕ). with_capital (map name_byte (before_first (λ byte. byte == 46) c))) (sym a)
    ∙ ap (λ (p : List ℕ). with_capital (map name_byte p)) (sym b)

-- ---- the loops that find them

-- no slash stands from here on
pub record IsBehindSlashes (start : ℕ) (name : List ℕ) : Type 0 where
  pub within : start ≤ length name
  pub behind : start + suffix_len (λ (byte : ℕ). not (byte == 47)) name
      ≡ length name + suffix_len (λ (byte : ℕ). not (byte == 47)) (take start name)

-- no dot stands before here
pub record IsBeforeDots (end : ℕ) (name : List ℕ) : Type 0 where
  pub within : end ≤ length name
  pub before : position_or_len (λ (byte : ℕ). byte == 46) name
      ≡ end + position_or_len (λ (byte : ℕ). byte == 46) (drop end name)
