-- Signature expressions and what `and` joins, as the grammar prints them (The Definition of Standard ML, figures 6 and 7
-- and appendix A):
--
--     sigexp    = "sig" spec "end"
--          | sigid
--          | sigexp "where" wheretype { "and" wheretype }
--     wheretype = "type" tyvars longtycon "=" ty
--     sigbinds  = sigbind { "and" sigbind }
--     sigbind   = sigid "=" sigexp, and strid ":" sigexp in a specification
--     include   = "include" sigid { sigid } | "include" sigexp
--
-- So behind the type of a `wheretype` an `and` may join another one, or another binding to the phrase around. Each form
-- is a relation between lexemes, the lexeme behind them if there is one, and the tree that they are. Nothing here says
-- how a reader tells the two apart. Types and specifications are phrases of their grammars, one level down: what
-- `structure` binds there are bindings of this form again.
use Rattle.std.specs.Prelude.{◌≡◌, ◌⊎◌, ℕ, zero, suc, Option, Some, List, [], ◌∷◌, ◌++◌, true, false}
use Rattle.grammars.specs.Grammar.{Phrase, head_or, begins}
use Rattle.sml_lexer.specs.declared.lexeme.Lexeme.{Lexeme}
use Rattle.sml_trees.specs.declared.full_sig.FullSigBind.{FullSigBind, roll-FullSigBind}
use Rattle.sml_trees.specs.declared.full_sig.FullSigExp.{FullSigExp}
use Rattle.sml_trees.specs.declared.full_sig.FullSigExp.TheVariants as s
use Rattle.sml_trees.specs.declared.full_sig.FullSpec.{FullSpec}
use Rattle.sml_trees.specs.declared.full_sig.FullSpec.TheVariants as p
use Rattle.sml_trees.specs.declared.full_sig.FullWhere.{FullWhere}
use Rattle.sml_trees.specs.declared.name.At.{At}
use Rattle.sml_trees.specs.declared.name.LongName.{LongName}
use Rattle.sml_trees.specs.declared.name.Name.{Name}
use Rattle.core_types.specs.Types.{ty}
use Rattle.phrase_reading.specs.Names.{begins_with_letter, tyvars}
use Rattle.phrase_reading.specs.Words.{is, at, name_of, named, tycon_of, long_named}
use Rattle.sml_lexer.specs.declared.words.Word.{Word}
use Rattle.sml_lexer.specs.declared.words.Word.TheVariants as w
use Rattle.signature_parser.specs.Joined.{is_module_name}
use Rattle.signature_parser.specs.SigLevels.{sig_level}
use Rattle.head_laws.specs.Forms.{IsTree}

-- which trees lexemes are, before the lexeme that follows, if one does
abbrev pub Form : Type 0 → Type 1
Form A = List Lexeme → Option Lexeme → A → Type 0

-- ---- what `and` joins

-- { "and" phrase }
abbrev pub AreFurther : {A : Type 0} → Form A → Form (List A)
AreFurther Is lexemes next [] = lexemes ≡ []
AreFurther Is lexemes next (part ∷ parts) =
    (x : Lexeme) × (ys zs : List Lexeme) × (lexemes ≡ x ∷ (ys ++ zs)) × (is w.And x ≡ true)
    × Is ys (head_or zs next) part × AreFurther Is zs next parts

-- phrase { "and" phrase }
abbrev pub AreJoined : {A : Type 0} → Form A → Form (List A)
AreJoined Is lexemes next [] = ⊥
AreJoined Is lexemes next (part ∷ parts) =
    (ys zs : List Lexeme) × (lexemes ≡ ys ++ zs) × Is ys (head_or zs next) part × AreFurther Is zs next parts

-- ---- names

-- sigid and strid: a name that is no symbol, without structures before it
abbrev pub IsModuleName : Lexeme → Name → Type 0
IsModuleName x called =
    (name_of x ≡ Some called.text) × (begins_with_letter called.text ≡ true) × (called ≡ named x called.text)

-- longtycon: any name but `*`
abbrev pub IsTycon : Lexeme → LongName → Type 0
IsTycon x long = (tycon_of x ≡ Some long.parts) × (long ≡ long_named x long.parts)

-- ---- types behind `where`

-- "type" tyvars longtycon "=" ty, where the type nests at most so many levels
abbrev pub IsWheretype : ℕ → Form FullWhere
IsWheretype most lexemes next found =
    (first : Lexeme) × (us : List Lexeme) × (called equals : Lexeme) × (vs : List Lexeme)
    × (lexemes ≡ first ∷ (us ++ called ∷ equals ∷ vs)) × (is w.TypeWord first ≡ true)
    × Phrase tyvars us (Some called) found.tyvars × IsTycon called found.long × (is w.Equals equals ≡ true)
    × IsTree (ty most) vs next found.ty × (found.at ≡ at first)

-- ---- signature expressions

-- "sig" spec "end", where each specification nests at most so many levels
abbrev pub IsSig : ℕ → List Lexeme → FullSigExp → Type 0
IsSig most lexemes sig =
    (opening : Lexeme) × (ys : List Lexeme) × (closing : Lexeme) × (specs : List FullSpec)
    × (lexemes ≡ opening ∷ (ys ++ closing ∷ [])) × (is w.Sig opening ≡ true)
    × IsTree (sig_level most).specs ys (Some closing) specs × (is w.End closing ≡ true)
    × (sig ≡ s.Sig specs (at opening))

-- sigid
abbrev pub IsSigid : List Lexeme → FullSigExp → Type 0
IsSigid lexemes sig =
    (x : Lexeme) × (called : Name) × (lexemes ≡ x ∷ []) × IsModuleName x called × (sig ≡ s.Named called (at x))

-- the place of the first of these lexemes
abbrev pub BeginAt : List Lexeme → At → Type 0
BeginAt lexemes place = (x : Lexeme) × (ys : List Lexeme) × (lexemes ≡ x ∷ ys) × (place ≡ at x)

-- sigexp "where" wheretype { "and" wheretype }, where these types nest at most so many levels each
abbrev pub IsWhere : ℕ → Form FullSigExp → Form FullSigExp
IsWhere most Is lexemes next sig =
    (ys : List Lexeme) × (x : Lexeme) × (zs : List Lexeme) × (inner : FullSigExp) × (types : List FullWhere)
    × (place : At) × (lexemes ≡ ys ++ x ∷ zs) × Is ys (Some x) inner × (is w.Where x ≡ true)
    × AreJoined (IsWheretype most) zs next types × BeginAt ys place × (sig ≡ s.Where inner types place)

-- a signature expression that nests at most so many levels: each of the forms is one
abbrev pub IsSigexp : ℕ → Form FullSigExp
IsSigexp zero lexemes next sig = ⊥
IsSigexp (suc most) lexemes next sig =
    IsSig most lexemes sig ⊎ IsSigid lexemes sig ⊎ IsWhere most (IsSigexp most) lexemes next sig

-- ---- bindings

-- strid, the mark, and sigexp
abbrev pub IsSigBind : ℕ → Word → Form FullSigBind
IsSigBind most mark lexemes next bind =
    (x y : Lexeme) × (zs : List Lexeme) × (called : Name) × (sig : FullSigExp) × (lexemes ≡ x ∷ y ∷ zs)
    × IsModuleName x called × (is mark y ≡ true) × IsSigexp most zs next sig
    × (bind ≡ roll-FullSigBind (record { name = called; sig = sig }))

-- ---- `include`

-- { sigid }
abbrev pub AreSigids : List Lexeme → List Name → Type 0
AreSigids lexemes [] = lexemes ≡ []
AreSigids lexemes (called ∷ names) =
    (x : Lexeme) × (xs : List Lexeme) × (lexemes ≡ x ∷ xs) × IsModuleName x called × AreSigids xs names

-- behind "include", which has this place: sigid { sigid }, or a sigexp that is no sigid
abbrev pub IsInclude : ℕ → At → Form FullSpec
IsInclude most place lexemes next spec =
    ((called : Name) × (names : List Name) × AreSigids lexemes (called ∷ names)
    × (spec ≡ p.IncludeNames (called ∷ names) place))
    ⊎ ((sig : FullSigExp) × IsSigexp most lexemes next sig × (IsSigid lexemes sig → ⊥) × (spec ≡ p.Include sig place))

-- ---- what stands behind

-- no `where`, with which a signature expression would go on
abbrev pub IsNoWhere : Option Lexeme → Type 0
IsNoWhere next = begins (is w.Where) next ≡ false

-- .. no `and`, with which types and bindings would
abbrev pub IsNoAnd : Option Lexeme → Type 0
IsNoAnd next = begins (is w.And) next ≡ false

-- .. and no name, with which names of signatures would
abbrev pub IsNoSigid : Option Lexeme → Type 0
IsNoSigid next = begins is_module_name next ≡ false
