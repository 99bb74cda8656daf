-- How expressions, declarations and structure expressions are read, and which of them.
use Rattle.std.specs.Prelude.{◌≡◌, ℕ, zero, suc, List, None}
use Rattle.cm_bytes.specs.Fields.{Step, byte_at, text_at, list_at}
use Rattle.sml_syntax.specs.Steps.{made, both, Table, no_tag, or_tag, tagged}
use Rattle.sml_syntax.specs.Reading.{nowhere, name_at, long_at, int_at, IsShort, IsInt, IsByte, IsName, IsLong, AreAll, ty_at, IsTy}
use Rattle.sml_syntax.specs.ReadingBinds.{typ_bind_at, IsTypBind, dat_bind_at, IsDatBind, ex_bind_at, IsExBind}
use Rattle.sml_syntax.specs.ReadingPat.{pat_steps, pat_is}
use Rattle.sml_syntax.specs.ReadingSig.{sig_steps, sig_is}
use Rattle.sml_trees.specs.declared.exp.Exp.{Exp, out-Exp}
use Rattle.sml_trees.specs.declared.exp.Dec.TheOpen.{Dec-F, Exp-F, StrExp-F}
use Rattle.sml_trees.specs.declared.exp.Exp.TheVariants as expv
use Rattle.sml_trees.specs.declared.exp.Dec.{Dec, out-Dec}
use Rattle.sml_trees.specs.declared.exp.Dec.TheVariants as decv
use Rattle.sml_trees.specs.declared.exp.StrExp.{StrExp, out-StrExp}
use Rattle.sml_trees.specs.declared.exp.StrExp.TheVariants as strv
use Rattle.sml_trees.specs.declared.exp.ExpField.{ExpField, out-ExpField, roll-ExpField}
use Rattle.sml_trees.specs.declared.exp.Rule.{Rule, out-Rule, roll-Rule}
use Rattle.sml_trees.specs.declared.exp.StrBind.{StrBind, out-StrBind, roll-StrBind}

-- the steps that read each kind of node
pub record ExpSteps : Type 0 where
  pub exp : Step Exp
  pub dec : Step Dec
  pub str : Step StrExp
  pub dec_body : Step Dec

-- which nodes of each kind they read
pub record ExpIs : Type 1 where
  pub exp : Exp → Type 0
  pub dec : Dec → Type 0
  pub str : StrExp → Type 0
  pub dec_body : Dec → Type 0

unfoldable pub exp_field_at : ℕ → ExpSteps → Step ExpField
exp_field_at n s = made (λ p. roll-ExpField (record { label = p.0; exp = p.1 })) (both name_at s.exp)

abbrev pub IsExpField : ℕ → ExpIs → ExpField → Type 0
IsExpField n i bind = (IsName (out-ExpField bind).label × i.exp (out-ExpField bind).exp)

unfoldable pub rule_at : ℕ → ExpSteps → Step Rule
rule_at n s = made (λ p. roll-Rule (record { pat = p.0; exp = p.1 })) (both (pat_steps n).pat s.exp)

abbrev pub IsRule : ℕ → ExpIs → Rule → Type 0
IsRule n i bind = ((pat_is n).pat (out-Rule bind).pat × i.exp (out-Rule bind).exp)

unfoldable pub str_bind_at : ℕ → ExpSteps → Step StrBind
str_bind_at n s = made (λ p. roll-StrBind (record { name = p.0; body = p.1 })) (both name_at s.str)

abbrev pub IsStrBind : ℕ → ExpIs → StrBind → Type 0
IsStrBind n i bind = (IsName (out-StrBind bind).name × i.str (out-StrBind bind).body)

abbrev pub exp_table : ℕ → ExpSteps → Table Exp
exp_table n s =
    or_tag 16 (made (λ p. expv.Int p nowhere) int_at) (
    or_tag 17 (made (λ p. expv.Str p nowhere) text_at) (
    or_tag 18 (made (λ p. expv.Char p nowhere) byte_at) (
    or_tag 19 (made (λ p. expv.Long p nowhere) long_at) (
    or_tag 20 (made (λ p. expv.Record p nowhere) (list_at (exp_field_at n s))) (
    or_tag 21 (made (λ p. expv.Let p.0 p.1 nowhere) (both s.dec_body s.exp)) (
    or_tag 22 (made (λ p. expv.App p.0 p.1 nowhere) (both s.exp s.exp)) (
    or_tag 23 (made (λ p. expv.Typed p.0 p.1 nowhere) (both s.exp (ty_at n))) (
    or_tag 24 (made (λ p. expv.Handle p.0 p.1 nowhere) (both s.exp (list_at (rule_at n s)))) (
    or_tag 25 (made (λ p. expv.Raise p nowhere) s.exp) (
    or_tag 26 (made (λ p. expv.Fn p nowhere) (list_at (rule_at n s))) no_tag))))))))))

-- a level, where each node within it is one
abbrev pub exp_level_is : ℕ → ExpIs → Exp-F Dec Exp StrExp ExpField Rule StrBind → Type 0
exp_level_is n i (Exp-F.Int a0 at) = IsInt a0 × (at ≡ nowhere)
exp_level_is n i (Exp-F.Str a0 at) = IsShort a0 × (at ≡ nowhere)
exp_level_is n i (Exp-F.Char a0 at) = IsByte a0 × (at ≡ nowhere)
exp_level_is n i (Exp-F.Long a0 at) = IsLong a0 × (at ≡ nowhere)
exp_level_is n i (Exp-F.Record a0 at) = (AreAll (IsExpField n i)) a0 × (at ≡ nowhere)
exp_level_is n i (Exp-F.Let a0 a1 at) = (i.dec_body a0 × i.exp a1) × (at ≡ nowhere)
exp_level_is n i (Exp-F.App a0 a1 at) = (i.exp a0 × i.exp a1) × (at ≡ nowhere)
exp_level_is n i (Exp-F.Typed a0 a1 at) = (i.exp a0 × (IsTy n) a1) × (at ≡ nowhere)
exp_level_is n i (Exp-F.Handle a0 a1 at) = (i.exp a0 × (AreAll (IsRule n i)) a1) × (at ≡ nowhere)
exp_level_is n i (Exp-F.Raise a0 at) = i.exp a0 × (at ≡ nowhere)
exp_level_is n i (Exp-F.Fn a0 at) = (AreAll (IsRule n i)) a0 × (at ≡ nowhere)

abbrev pub dec_table : ℕ → ExpSteps → Table Dec
dec_table n s =
    or_tag 64 (made (λ p. decv.Val p.0 p.1.0 p.1.1 nowhere) (both (list_at name_at) (both (list_at (rule_at n s)) (list_at (rule_at n s))))) (
    or_tag 65 (made (λ p. decv.Types p nowhere) (list_at (typ_bind_at n))) (
    or_tag 66 (made (λ p. decv.Datatypes p nowhere) (list_at (dat_bind_at n))) (
    or_tag 67 (made (λ p. decv.Replication p.0 p.1 nowhere) (both name_at long_at)) (
    or_tag 68 (made (λ p. decv.Exceptions p nowhere) (list_at (ex_bind_at n))) (
    or_tag 69 (made (λ p. decv.Local p.0 p.1 nowhere) (both s.dec_body s.dec_body)) (
    or_tag 70 (made (λ p. decv.Open p nowhere) (list_at long_at)) (
    or_tag 71 (made (λ p. decv.Sequence p nowhere) (list_at s.dec)) (
    or_tag 72 (made (λ p. decv.Structures p nowhere) (list_at (str_bind_at n s))) no_tag))))))))

-- a level, where each node within it is one
abbrev pub dec_level_is : ℕ → ExpIs → Dec-F Dec Exp StrExp ExpField Rule StrBind → Type 0
dec_level_is n i (Dec-F.Val a0 a1 a2 at) = ((AreAll IsName) a0 × ((AreAll (IsRule n i)) a1 × (AreAll (IsRule n i)) a2)) × (at ≡ nowhere)
dec_level_is n i (Dec-F.Types a0 at) = (AreAll (IsTypBind n)) a0 × (at ≡ nowhere)
dec_level_is n i (Dec-F.Datatypes a0 at) = (AreAll (IsDatBind n)) a0 × (at ≡ nowhere)
dec_level_is n i (Dec-F.Replication a0 a1 at) = (IsName a0 × IsLong a1) × (at ≡ nowhere)
dec_level_is n i (Dec-F.Exceptions a0 at) = (AreAll (IsExBind n)) a0 × (at ≡ nowhere)
dec_level_is n i (Dec-F.Local a0 a1 at) = (i.dec_body a0 × i.dec_body a1) × (at ≡ nowhere)
dec_level_is n i (Dec-F.Open a0 at) = (AreAll IsLong) a0 × (at ≡ nowhere)
dec_level_is n i (Dec-F.Sequence a0 at) = (AreAll i.dec) a0 × (at ≡ nowhere)
dec_level_is n i (Dec-F.Structures a0 at) = (AreAll (IsStrBind n i)) a0 × (at ≡ nowhere)

abbrev pub str_table : ℕ → ExpSteps → Table StrExp
str_table n s =
    or_tag 80 (made (λ p. strv.Struct p nowhere) s.dec_body) (
    or_tag 81 (made (λ p. strv.Named p nowhere) long_at) (
    or_tag 82 (made (λ p. strv.Transparent p.0 p.1 nowhere) (both s.str (sig_steps n).sig)) (
    or_tag 83 (made (λ p. strv.Opaque p.0 p.1 nowhere) (both s.str (sig_steps n).sig)) (
    or_tag 84 (made (λ p. strv.Functor p.0 p.1 nowhere) (both name_at s.str)) (
    or_tag 85 (made (λ p. strv.Within p.0 p.1 nowhere) (both s.dec_body s.str)) no_tag)))))

-- a level, where each node within it is one
abbrev pub str_level_is : ℕ → ExpIs → StrExp-F Dec Exp StrExp ExpField Rule StrBind → Type 0
str_level_is n i (StrExp-F.Struct a0 at) = i.dec_body a0 × (at ≡ nowhere)
str_level_is n i (StrExp-F.Named a0 at) = IsLong a0 × (at ≡ nowhere)
str_level_is n i (StrExp-F.Transparent a0 a1 at) = (i.str a0 × (sig_is n).sig a1) × (at ≡ nowhere)
str_level_is n i (StrExp-F.Opaque a0 a1 at) = (i.str a0 × (sig_is n).sig a1) × (at ≡ nowhere)
str_level_is n i (StrExp-F.Functor a0 a1 at) = (IsName a0 × i.str a1) × (at ≡ nowhere)
str_level_is n i (StrExp-F.Within a0 a1 at) = (i.dec_body a0 × i.str a1) × (at ≡ nowhere)

-- what is read after the tag of a body, which is a sequence
abbrev pub dec_body_table : ExpSteps → Table Dec
dec_body_table s = or_tag 71 (made (λ p. decv.Sequence p nowhere) (list_at s.dec)) no_tag

-- the steps that read nodes of at most so many tags in one another
abbrev pub exp_steps : ℕ → ExpSteps
exp_steps zero = record { exp = λ bytes. None; dec = λ bytes. None; str = λ bytes. None; dec_body = λ bytes. None }
exp_steps (suc n) = record {
  exp = tagged (exp_table n (exp_steps n));
  dec = tagged (dec_table n (exp_steps n));
  str = tagged (str_table n (exp_steps n));
  dec_body = tagged (dec_body_table (exp_steps n));
}

-- which nodes have a spelling of at most so many tags in one another, and stand nowhere
abbrev pub exp_is : ℕ → ExpIs
exp_is zero = record { exp = λ x. ⊥; dec = λ x. ⊥; str = λ x. ⊥; dec_body = λ x. ⊥ }
exp_is (suc n) = record {
  exp = λ x. exp_level_is n (exp_is n) (out-Exp x);
  dec = λ x. dec_level_is n (exp_is n) (out-Dec x);
  str = λ x. str_level_is n (exp_is n) (out-StrExp x);
  dec_body = λ x. (xs : List Dec) × (x ≡ decv.Sequence xs nowhere) × AreAll (exp_is n).dec xs;
}
