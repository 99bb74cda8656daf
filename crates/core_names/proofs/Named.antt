-- The names that lexemes are fit, and so do those that parts of productions read.
use Rattle.std.proofs.Common.{◌≡◌, ℕ, ◌<◌, ◌≤◌, ◌^◌, Bool, true, false, List, [], ◌∷◌, length, Option, Some, None, All, if◌then◌else◌, arith}
use Rattle.std.specs.Prelude.{ℤ, pos, negsuc, FitsSigned, nat_le}
use Rattle.std.specs.Int.{w64}
use Rattle.std.specs.List.{list_all}
use Rattle.std.proofs.lemmas.Bool.Decides.{nat_tests}
use Rattle.std.proofs.lemmas.List.Elements.{All-head}
use Rattle.sml_lexer.specs.declared.lexeme.Lexeme.{Lexeme}
use Rattle.sml_lexer.specs.declared.lexeme.LexemeKind.{LexemeKind}
use Rattle.sml_lexer.specs.declared.lexeme.LexemeKind.TheVariants as k
use Rattle.sml_trees.specs.declared.full_ty.OpLong.{OpLong}
use Rattle.sml_trees.specs.declared.full_ty.OpName.{OpName}
use Rattle.sml_trees.specs.declared.name.LongName.{LongName}
use Rattle.sml_trees.specs.declared.name.Name.{Name}
use Rattle.phrase_reading.specs.Words.{only, name_in, name_of, long_in, long_of, tycon_parts, and_then, is_star_text, last_part, if_not, tycon_of, tyvar_in, tyvar_of, digits_of, label_in, label_of, named, long_named, name, label, field_label, tyvar, long, tycon}
use Rattle.phrase_reading.specs.Names.{taken_from, short_tycon_text, short_tycon_of, short_tycon, begins_with_letter, strid_parts, strid_of, strid, tyvars_from, tyvar_list, tyvars_in_parens, tyvars, name_with, op_name, long_with, op_long, names}
use Rattle.phrase_reading.specs.declared.lexemes.Label.{Label}
use Rattle.body_laws.proofs.Signatures.{Each, both-true}
use Rattle.lexeme_laws.specs.Limits.{IsNameText, IsWithinLimits}
use Rattle.fitting_names.specs.Names.{text_fits}
use Rattle.fitting_names.proofs.Texts.{FitText, decimal_fits, name_text_fits, parts_fit}
use Rattle.fitting_names.proofs.Nodes.{FitName, FitLong}
use Rattle.core_names.proofs.Keeping.{Good, Keeps, keep_pure, keep_bind, keep_then, keep_many, IfAny, keep_made_by, keep_taken_by, keep_if_taken_by, keep_if_mark, each-append}

-- ---- texts

-- the parts of a name
pub record FitParts (parts : List (List ℕ)) : Type 0 where
  pub some : 1 ≤ length parts
  pub each : list_all text_fits parts ≡ true

pub long_is : (parts : List (List ℕ)) (line col : ℕ) → FitParts parts
    → FitLong (record { parts = parts; line = line; col = col })
long_is parts line col is =
    both-true (nat_le 1 (length parts)) (list_all text_fits parts)
    (let some = is.some in grind (arith, nat_tests, some)) is.each

only_fits : (parts : List (List ℕ)) → All IsNameText parts → IfAny FitText (only parts)
only_fits [] all = tt
only_fits (part ∷ []) all = name_text_fits part (All-head IsNameText part [] all)
only_fits (part ∷ second ∷ parts) all = tt

name_in_fits : (kind : LexemeKind) → IsWithinLimits kind → IfAny FitText (name_in kind)
name_in_fits (k.Reserved text) good = tt
name_in_fits (k.Name parts) good = only_fits parts good.1
name_in_fits (k.TyVar text) good = tt
name_in_fits (k.Int value ok) good = tt
name_in_fits (k.Str text) good = tt
name_in_fits (k.Char byte) good = tt

pub name_of_fits : (x : Lexeme) → Good x → IfAny FitText (name_of x)
name_of_fits x good = name_in_fits x.kind good

long_in_fits : (kind : LexemeKind) → IsWithinLimits kind → IfAny FitParts (long_in kind)
long_in_fits (k.Reserved text) good = tt
long_in_fits (k.Name parts) good = record { some = good.0; each = parts_fit parts good.1 }
long_in_fits (k.TyVar text) good = tt
long_in_fits (k.Int value ok) good = tt
long_in_fits (k.Str text) good = tt
long_in_fits (k.Char byte) good = tt

pub long_of_fits : (x : Lexeme) → Good x → IfAny FitParts (long_of x)
long_of_fits x good = long_in_fits x.kind good

tyvar_in_fits : (kind : LexemeKind) → IsWithinLimits kind → IfAny FitText (tyvar_in kind)
tyvar_in_fits (k.Reserved text) good = tt
tyvar_in_fits (k.Name parts) good = tt
tyvar_in_fits (k.TyVar text) good = name_text_fits text good
tyvar_in_fits (k.Int value ok) good = tt
tyvar_in_fits (k.Str text) good = tt
tyvar_in_fits (k.Char byte) good = tt

pub tyvar_of_fits : (x : Lexeme) → Good x → IfAny FitText (tyvar_of x)
tyvar_of_fits x good = tyvar_in_fits x.kind good

digits_fit : (n : ℤ) (ok : Bool) → FitsSigned w64 n → IfAny FitText (digits_of n ok)
digits_fit (pos n) true is = let low : n < 2 ^ 63 = is.sfits in decimal_fits n (omega (arith, low))
digits_fit (pos n) false is = tt
digits_fit (negsuc n) ok is = tt

label_in_fits : (kind : LexemeKind) → IsWithinLimits kind → IfAny FitText (label_in kind)
label_in_fits (k.Reserved text) good = tt
label_in_fits (k.Name parts) good = only_fits parts good.1
label_in_fits (k.TyVar text) good = tt
label_in_fits (k.Int value ok) good = digits_fit value ok good
label_in_fits (k.Str text) good = tt
label_in_fits (k.Char byte) good = tt

label_of_fits : (x : Lexeme) → Good x → IfAny FitText (label_of x)
label_of_fits x good = label_in_fits x.kind good

-- what is chosen of what holds
pub then_fits : {A : Type 0} {P : A → Type 0} (f : A → Option A) → ((a : A) → P a → IfAny P (f a)) → (o : Option A)
    → IfAny P o → IfAny P (and_then f o)
then_fits f each None is = tt
then_fits f each (Some a) is = each a is

not_fits : {A : Type 0} (P : A → Type 0) (b : Bool) (a : A) → P a → IfAny P (if_not b a)
not_fits P true a is = tt
not_fits P false a is = is

pub if_fits : {A : Type 0} (P : A → Type 0) (b : Bool) (a : A) → P a → IfAny P (if b then Some a else None)
if_fits P true a is = is
if_fits P false a is = tt

pub tycon_of_fits : (x : Lexeme) → Good x → IfAny FitParts (tycon_of x)
tycon_of_fits x good =
    then_fits tycon_parts (λ parts is. not_fits FitParts (is_star_text (last_part parts)) parts is) (long_of x)
    (long_of_fits x good)

short_tycon_of_fits : (x : Lexeme) → Good x → IfAny FitText (short_tycon_of x)
short_tycon_of_fits x good =
    then_fits short_tycon_text (λ text is. not_fits FitText (is_star_text text) text is) (name_of x)
    (name_of_fits x good)

pub strid_of_fits : (x : Lexeme) → Good x → IfAny FitParts (strid_of x)
strid_of_fits x good =
    then_fits strid_parts (λ parts is. if_fits FitParts (begins_with_letter (last_part parts)) parts is) (long_of x)
    (long_of_fits x good)

-- ---- what is made of texts

pub as_name : (x : Lexeme) (o : Option (List ℕ)) → IfAny FitText o → IfAny (λ text. FitName (named x text)) o
as_name x None is = tt
as_name x (Some text) is = is

pub as_long : (x : Lexeme) (o : Option (List (List ℕ))) → IfAny FitParts o
    → IfAny (λ parts. FitLong (long_named x parts)) o
as_long x None is = tt
as_long x (Some parts) is = long_is parts x.line x.col is

-- ---- parts of productions

pub name_keeps : Keeps name FitName
name_keeps = keep_taken_by name_of named (λ x good. as_name x (name_of x) (name_of_fits x good))

pub label_keeps : Keeps label FitName
label_keeps = keep_taken_by label_of named (λ x good. as_name x (label_of x) (label_of_fits x good))

pub field_label_keeps : Keeps field_label (λ (found : Label). FitName found.name)
field_label_keeps =
    keep_taken_by label_of _ (λ x good. as_name x (label_of x) (label_of_fits x good))

pub tyvar_keeps : Keeps tyvar FitName
tyvar_keeps = keep_taken_by tyvar_of named (λ x good. as_name x (tyvar_of x) (tyvar_of_fits x good))

pub long_keeps : Keeps long FitLong
long_keeps = keep_taken_by long_of long_named (λ x good. as_long x (long_of x) (long_of_fits x good))

pub tycon_keeps : Keeps tycon FitLong
tycon_keeps = keep_taken_by tycon_of long_named (λ x good. as_long x (tycon_of x) (tycon_of_fits x good))

pub short_tycon_keeps : Keeps short_tycon FitName
short_tycon_keeps =
    keep_taken_by short_tycon_of named (λ x good. as_name x (short_tycon_of x) (short_tycon_of_fits x good))

pub strid_keeps : Keeps strid FitLong
strid_keeps = keep_taken_by strid_of long_named (λ x good. as_long x (strid_of x) (strid_of_fits x good))

-- further ones
pub taken_from_keeps : {A B : Type 0} (what : Lexeme → Option A) (make : Lexeme → A → B) (P : B → Type 0)
    → ((x : Lexeme) → Good x → IfAny (λ a. P (make x a)) (what x)) → (found : List B) → Each P found
    → Keeps (taken_from what make found) (Each P)
unfolding taken_from
taken_from_keeps what make P each found are =
    keep_many (λ found x good so. keep_bind (keep_made_by (make x) {P = P} (what x) (each x good)) (λ next is.
    keep_pure _ (each-append P found (next ∷ []) so (is, tt)))) found are

pub names_keep : Keeps names (Each FitName)
unfolding names
names_keep =
    keep_bind name_keeps (λ first is.
    taken_from_keeps name_of named FitName (λ x good. as_name x (name_of x) (name_of_fits x good)) (first ∷ [])
    (is, tt))

pub strids_keep : (found : List LongName) → Each FitLong found
    → Keeps (taken_from strid_of long_named found) (Each FitLong)
strids_keep found are =
    taken_from_keeps strid_of long_named FitLong (λ x good. as_long x (strid_of x) (strid_of_fits x good)) found are

pub tyvar_list_keeps : (first : Name) → FitName first → Keeps (tyvar_list first) (Each FitName)
unfolding tyvar_list tyvars_from
tyvar_list_keeps first is =
    keep_bind (keep_many (λ found x good so. keep_bind tyvar_keeps (λ next it.
    keep_pure _ (each-append FitName found (next ∷ []) so (it, tt)))) (first ∷ []) (is, tt))
    (λ found are. keep_then (λ _. keep_pure found are))

pub tyvars_keep : Keeps tyvars (Each FitName)
unfolding tyvars tyvars_in_parens
tyvars_keep =
    keep_if_taken_by tyvar_of named FitName (λ x good. as_name x (tyvar_of x) (tyvar_of_fits x good))
    (λ var is. keep_pure _ (is, tt))
    (keep_if_mark _ (keep_bind tyvar_keeps (λ first is. tyvar_list_keeps first is)) (keep_pure _ tt))

abbrev pub OpNameFits : OpName → Type 0
OpNameFits found = FitName found.name

abbrev pub OpLongFits : OpLong → Type 0
OpLongFits found = FitLong found.long

pub op_name_keeps : Keeps op_name OpNameFits
unfolding op_name name_with
op_name_keeps =
    keep_if_mark _ (keep_bind name_keeps (λ called is. keep_pure _ is))
    (keep_bind name_keeps (λ called is. keep_pure _ is))

pub op_long_keeps : Keeps op_long OpLongFits
unfolding op_long long_with
op_long_keeps =
    keep_if_mark _ (keep_bind long_keeps (λ called is. keep_pure _ is))
    (keep_bind long_keeps (λ called is. keep_pure _ is))
