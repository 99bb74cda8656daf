-- The plain functions say whether a top meets the rules.
use Rattle.std.proofs.Common.{◌≡◌, ℕ, ◌≤◌, ◌^◌, refl, sym, ap, subst, ◌∙◌, List, [], ◌∷◌, length, map, filter, Bool, true, false, ◌&&◌, not, ◌||◌, arith}
use Rattle.std.specs.Prelude.{All, eqb}
use Rattle.std.specs.List.{list_all, range_with_len}
use Rattle.std.specs.Ordering.{nat_cmp, is_lt}
use Rattle.std.specs.Cmp.Lexicographic.{slice_cmp}
use Rattle.std.specs.declared.cmp.Ordering.{Ordering}
use Rattle.std.specs.declared.cmp.Ordering.TheVariants.{Less, Equal, Greater}
use Rattle.std.proofs.lemmas.Bool.{and_parts, and_from, eq-eqb}
use Rattle.std.proofs.lemmas.List.Elements.{All-nil, All-cons, All-head, All-tail}
use Rattle.node_bytes.specs.Spelling.{nodes_of}
use Rattle.node_bytes.specs.Interfaces.{interfaces}
use Rattle.unification.proofs.Walking.{either_way, or_left, or_right, or_either}
use Rattle.unification.specs.Closing.{bound_in}
use Rattle.semantic_objects.specs.declared.name.Owner.{Owner}
use Rattle.semantic_objects.specs.declared.name.Owner.TheVariants as owner
use Rattle.semantic_objects.specs.declared.name.TyName.{TyName}
use Rattle.semantic_objects.specs.declared.symbol.Symbol.{Symbol}
use Rattle.semantic_objects.specs.declared.symbol.Symbol.TheVariants as symbol
use Rattle.semantic_objects.specs.declared.entry.ConEntry.{ConEntry}
use Rattle.semantic_objects.specs.declared.entry.TypeFn.{TypeFn}
use Rattle.semantic_objects.specs.declared.entry.TypeStr.{TypeStr}
use Rattle.semantic_objects.specs.declared.entry.ValueEntry.{ValueEntry}
use Rattle.semantic_objects.specs.Symbols.{AreRising, part_count, same_owner, same_name}
use Rattle.semantic_objects.specs.Tables.{Table, by_bytes, names_of}
use Rattle.semantic_objects.specs.Trees.{Tree, Trees, TypeScheme}
use Rattle.semantic_objects.specs.Environments.{Env, Structures, Signature, Functor, Top, table_of, types, values}
use Rattle.realisation.specs.Names.{names_in_env, names_in_functor, names_in_top, is_listed}
use Rattle.realisation.specs.Canonical.{met, is_own, is_bound_name}
use Rattle.realisation.proofs.Listing.{name_is, name_same}
use Rattle.canonical_laws.proofs.Names.{filter_listed, filter_passes, filter_keeps}
use Rattle.canonical_interfaces.specs.Fair.{is_other}
use Rattle.interface_conditions.specs.Names.{is_graph}
use Rattle.interface_format.specs.Trees.{top_node}
use Rattle.interface_format.specs.Rules.{IsNumber, IsName, AreNames, HasText, IsTypeName, IsSymbol, IsOver, count_trees, IsType, AreTypes, IsFunction, IsClosed, IsTypeStructure, IsTypeRow, IsValueRow, AreTables, IsEnv, AreEnvs, AreNumbered, Agree, is_not_bound, is_beyond, IsSignature, IsFunctor, IsSignatureRow, IsFunctorRow, HasTables, HasNames}
use Rattle.interface_format.specs.Interfaces.{IsInterface, interface_bytes}
use Rattle.restoring_laws.proofs.Numbered.{names_agree}
use Rattle.interface_tops.specs.Conditions.{is_number, is_name, are_rising, are_names, has_text, is_type_name, is_symbol, is_over, is_type, are_types, is_function, is_closed, con_name, is_con, is_type_structure, is_type_row, is_value_row, are_tables, is_env, are_envs, number_of_name, are_numbered, agrees_with, agree, is_signature, binds_exactly, has_numbers, is_functor, is_signature_row, is_functor_row, is_empty, has_env_alone, are_signatures, are_functors, has_tables, has_names, is_interface}
use Rattle.interface_tops.proofs.Deciding.{Tells, as_well, both, always, never, less, least, equal, each, text, lists}

-- ---- lists

weaker : {A : Type 0} (P Q : A → Type 0) → ((x : A) → P x → Q x) → (xs : List A) → All P xs → All Q xs
weaker P Q f [] h = All-nil Q
weaker P Q f (x ∷ xs) h = All-cons Q x xs (f x (All-head P x xs h)) (weaker P Q f xs (All-tail P x xs h))

two : {A : Type 0} (P Q : A → Type 0) (xs : List A) → All P xs → All Q xs → All (λ x. P x × Q x) xs
two P Q [] h k = All-nil (λ x. P x × Q x)
two P Q (x ∷ xs) h k = All-cons (λ x. P x × Q x) x xs (All-head P x xs h, All-head Q x xs k)
    (two P Q xs (All-tail P x xs h) (All-tail Q x xs k))

-- ---- numbers, names and labels

pub number : (n : ℕ) → Tells (is_number n) (IsNumber n)
number n = as_well (less n (2 ^ 32)) (λ h. record { below = h }) (λ h. h.below)

graph : (b : ℕ) → Tells (is_graph b) ((33 ≤ b) × (b ≤ 126))
graph b = as_well (both (less 32 b) (less b 127))
    (λ h. (let low = h.0 in let high = h.1 in (omega (arith, low), omega (arith, high))))
    (λ h. (let low = h.0 in let high = h.1 in (omega (arith, low), omega (arith, high))))

name : (text : List ℕ) → Tells (is_name text) (IsName text)
name text = as_well
    (both (least 1 (length text)) (both (least (length text) 255)
    (each is_graph (λ b. (33 ≤ b) × (b ≤ 126)) graph text)))
    (λ h. record {
      some = h.0;
      short = h.1.0;
      from = weaker (λ b. (33 ≤ b) × (b ≤ 126)) (λ b. 33 ≤ b) (λ b k. k.0) text h.1.1;
      to = weaker (λ b. (33 ≤ b) × (b ≤ 126)) (λ b. b ≤ 126) (λ b k. k.1) text h.1.1;
    })
    (λ h. (h.some, (h.short, two (λ b. 33 ≤ b) (λ b. b ≤ 126) text h.from h.to)))

before : (l m : List ℕ) → Tells (is_lt (by_bytes l m)) (slice_cmp nat_cmp l m ≡ Less)
before l m = record { yes = is_less (slice_cmp nat_cmp l m); so = λ e. ap is_lt e }
  where
    is_less : (o : Ordering) → is_lt o ≡ true → o ≡ Less
    is_less Less e = refl
    is_less Equal e = absurd (cc)
    is_less Greater e = absurd (cc)

rising : (names : List (List ℕ)) → Tells (are_rising names) (AreRising names)
rising [] = always
rising (l ∷ []) = always
rising (l ∷ m ∷ ls) = both (before l m) (rising (m ∷ ls))

names : (list : List (List ℕ)) → Tells (are_names list) (AreNames list)
names list = as_well (both (each is_name IsName name list) (both (rising list) (number (length list))))
    (λ h. record { each = h.0; rising = h.1.0; counted = h.1.1 })
    (λ h. (h.each, (h.rising, h.counted)))

-- ---- types

owner_text : (o : Owner) → Tells (has_text o) (HasText o)
owner_text owner.Basis = always
owner_text (owner.«Unit» u) = number (length u)
owner_text owner.Bound = always

type_name : (n : TyName) → Tells (is_type_name n) (IsTypeName n)
type_name n = as_well (both (owner_text n.owner) (both (number n.number) (number n.arity)))
    (λ h. record { owner = h.0; number = h.1.0; arity = h.1.1 })
    (λ h. (h.owner, (h.number, h.arity)))

a_symbol : (c : Symbol) → Tells (is_symbol c) (IsSymbol c)
a_symbol symbol.Arrow = always
a_symbol (symbol.Record labels) = names labels
a_symbol (symbol.Name n) = type_name n

over : (c : Symbol) (count : ℕ) → Tells (is_over c count) (IsOver c count)
over c count = as_well (both (a_symbol c) (equal count (part_count c)))
    (λ h. record { symbol = h.0; parts = h.1 })
    (λ h. (h.symbol, h.parts))

mutual
  a_type : (count : ℕ) (t : Tree) → Tells (is_type count t) (IsType count t)
  a_type count (Tree.Bound i) = less i count
  a_type count (Tree.Free n) = never
  a_type count (Tree.Made c ts) = both (over c (count_trees ts)) (some_types count ts)

  some_types : (count : ℕ) (ts : Trees) → Tells (are_types count ts) (AreTypes count ts)
  some_types count Trees.Nil = always
  some_types count (Trees.Cons t ts) = both (a_type count t) (some_types count ts)

-- ---- entries

function : (f : TypeFn) → Tells (is_function f) (IsFunction f)
function f = as_well (both (number f.arity) (a_type f.arity f.body))
    (λ h. record { arity = h.0; body = h.1 })
    (λ h. (h.arity, h.body))

scheme : (σ : TypeScheme) → Tells (is_closed σ) (IsClosed σ)
scheme σ = as_well
    (both (number (length σ.marks)) (both (a_type (length σ.marks) σ.body)
    (text (bound_in σ.body []) (range_with_len 0 (length σ.marks)))))
    (λ h. record { count = h.0; body = h.1.0; ordered = h.1.1 })
    (λ h. (h.count, (h.body, h.ordered)))

type_structure : (str : TypeStr) → Tells (is_type_structure str) (IsTypeStructure str)
type_structure str = as_well
    (both (function str.function) (both (names (map con_name str.cons))
    (each is_con (λ (con : ConEntry). IsClosed con.scheme) (λ con. scheme con.scheme) str.cons)))
    (λ h. record { function = h.0; names = h.1.0; cons = h.1.1 })
    (λ h. (h.function, (h.names, h.cons)))

-- ---- environments

tables : (ss : Structures) (ts : Table TypeStr) (vs : Table ValueEntry)
    → Tells (are_tables ss ts vs) (AreTables ss ts vs)
tables ss ts vs = as_well
    (both (names (names_of (table_of ss))) (both (names (names_of ts)) (both (names (names_of vs))
    (both (each is_type_row IsTypeRow (λ row. type_structure row.1) ts)
    (each is_value_row IsValueRow (λ row. scheme row.1.scheme) vs)))))
    (λ h. record {
      structure_names = h.0;
      type_names = h.1.0;
      value_names = h.1.1.0;
      types = h.1.1.1.0;
      values = h.1.1.1.1;
    })
    (λ h. (h.structure_names, (h.type_names, (h.value_names, (h.types, h.values)))))

mutual
  environment : (env : Env) → Tells (is_env env) (IsEnv env)
  environment (Env.MakeEnv ss ts vs) = both (tables ss ts vs) (environments ss)

  environments : (ss : Structures) → Tells (are_envs ss) (AreEnvs ss)
  environments Structures.Nil = always
  environments (Structures.Cons name env rest) = both (environment env) (environments rest)

-- ---- type names

pub one_name : (m n : TyName) → Tells (same_name m n) (m ≡ n)
one_name m n = record { yes = name_is m n; so = λ e. ap (same_name m) (sym e) ∙ name_same m }

numbered : (first : ℕ) (list : List TyName) → Tells (are_numbered first list) (AreNumbered first list)
numbered first list = text (map number_of_name list) (range_with_len first (length list))

pub some_list : {A : Type 0} (xs : List A) → Tells (is_empty xs) (xs ≡ [])
some_list [] = record { yes = λ e. refl; so = λ e. refl }
some_list (x ∷ xs) = record { yes = λ e. absurd (cc); so = λ e. absurd (cc) }

-- ---- names that agree

pub owner_itself : (o : Owner) → same_owner o o ≡ true
owner_itself o =
    let n : TyName = record { owner = o; number = 0; arity = 0; eq = false } in
    (and_parts (same_owner o o) true (name_same n)).0

-- what is so of each name that is listed is so of all
pub all_where : (f : TyName → Bool) (xs : List TyName) → ((n : TyName) → is_listed n xs ≡ true → f n ≡ true)
    → list_all f xs ≡ true
all_where f [] h = refl
all_where f (x ∷ xs) h = and_from (f x) (list_all f xs)
    (h x (or_left (same_name x x) (is_listed x xs) (name_same x)))
    (all_where f xs (λ n l. h n (or_right (same_name n x) (is_listed n xs) l)))

pub at_listed : (f : TyName → Bool) (xs : List TyName) (n : TyName) → list_all f xs ≡ true → is_listed n xs ≡ true
    → f n ≡ true
at_listed f [] n h l = absurd (cc)
at_listed f (x ∷ xs) n h l =
    let parts = and_parts (f x) (list_all f xs) h in
    or_either (same_name n x) (is_listed n xs) l (λ e. ap f (name_is n x e) ∙ parts.0)
    (λ k. at_listed f xs n parts.1 k)

pub same_facts : (m n : TyName) → m.owner ≡ n.owner → m.number ≡ n.number
    → (same_owner m.owner n.owner && eqb m.number n.number) ≡ true
same_facts m n o s = and_from (same_owner m.owner n.owner) (eqb m.number n.number)
    (ap (same_owner m.owner) (sym o) ∙ owner_itself m.owner) (eq-eqb m.number n.number s)

-- owners that are the same are one
pub owner_is : (m n : TyName) → same_owner m.owner n.owner ≡ true → m.owner ≡ n.owner
owner_is m n e =
    let a : TyName = record { owner = m.owner; number = 0; arity = 0; eq = false } in
    let b : TyName = record { owner = n.owner; number = 0; arity = 0; eq = false } in
    let same : same_name a b ≡ true = and_from (same_owner m.owner n.owner) true e refl in
    ap (λ (z : TyName). z.owner) (name_is a b same)

pub agreeing : (xs : List TyName) → Tells (agree xs) (Agree xs)
agreeing xs = record {
  yes = λ e. record {
    agree = λ m n l r o s.
        name_is m n
        (sym (ap (λ z. not z || same_name m n) (same_facts m n o s))
        ∙ at_listed (agrees_with m) xs n (at_listed (λ m. list_all (agrees_with m) xs) xs m e l) r);
  };
  so = λ h. all_where (λ m. list_all (agrees_with m) xs) xs
      (λ m l. all_where (agrees_with m) xs (λ n r. either_way (same_owner m.owner n.owner && eqb m.number n.number)
      (λ e. agreed h m n l r e) (λ e. ap (λ z. not z || same_name m n) e)));
}
  where
    agreed : Agree xs → (m n : TyName) → is_listed m xs ≡ true → is_listed n xs ≡ true
        → (same_owner m.owner n.owner && eqb m.number n.number) ≡ true → agrees_with m n ≡ true
    agreed h m n l r e =
        let parts = and_parts (same_owner m.owner n.owner) (eqb m.number n.number) e in
        let same = h.agree m n l r (owner_is m n parts.0) ((equal m.number n.number).yes parts.1) in
        or_right (not (same_owner m.owner n.owner && eqb m.number n.number)) (same_name m n)
        (ap (same_name m) (sym same) ∙ name_same m)

-- a name of another unit or of the basis is none that is bound
other_is : (home : List ℕ) (list : List TyName) (n : TyName) → is_listed n (filter (is_other home) list) ≡ true
    → is_listed n (filter is_not_bound list) ≡ true
other_is home list n h =
    filter_keeps is_not_bound n list (filter_listed (is_other home) n list h)
    (and_parts (not (is_own home n)) (not (is_bound_name n)) (filter_passes (is_other home) n list h)).1

-- ---- signatures, functors and tops

signature : (sig : Signature) → Tells (is_signature sig) (IsSignature sig)
signature sig = as_well
    (both (environment sig.env) (both (lists same_name one_name sig.bound (met is_bound_name (names_in_env sig.env)))
    (both (numbered 0 sig.bound) (number (length sig.bound)))))
    (λ h. record {
      env = h.0;
      bound = h.1.0;
      numbered = h.1.1.0;
      agree = names_agree.signature (names_in_env sig.env) (subst (AreNumbered 0) h.1.0 h.1.1.0);
      counted = h.1.1.1;
    })
    (λ h. (h.env, (h.bound, (h.numbered, h.counted))))

functor_agrees : (fun : Functor) → fun.bound ≡ met is_bound_name (names_in_env fun.param)
    → fun.further ≡ met (is_beyond fun.bound) (names_in_env fun.result) → AreNumbered 0 fun.bound
    → AreNumbered (length fun.bound) fun.further → Agree (filter is_bound_name (names_in_functor fun))
functor_agrees fun b f h k =
    let further = f ∙ ap (λ bound. met (is_beyond bound) (names_in_env fun.result)) b in
    let counted = subst (λ (n : ℕ). AreNumbered n fun.further) (ap length b) k in
    names_agree.functor (names_in_env fun.param) (names_in_env fun.result) (subst (AreNumbered 0) b h)
    (subst (AreNumbered (length (met is_bound_name (names_in_env fun.param)))) further counted)

binding : (fun : Functor) → Tells (binds_exactly fun)
    ((fun.bound ≡ met is_bound_name (names_in_env fun.param))
    × (fun.further ≡ met (is_beyond fun.bound) (names_in_env fun.result)))
binding fun = both (lists same_name one_name fun.bound (met is_bound_name (names_in_env fun.param)))
    (lists same_name one_name fun.further (met (is_beyond fun.bound) (names_in_env fun.result)))

numbering : (fun : Functor) → Tells (has_numbers fun)
    (AreNumbered 0 fun.bound × (AreNumbered (length fun.bound) fun.further
    × (IsNumber (length fun.bound) × IsNumber (length fun.further))))
numbering fun = both (numbered 0 fun.bound) (both (numbered (length fun.bound) fun.further)
    (both (number (length fun.bound)) (number (length fun.further))))

a_functor : (fun : Functor) → Tells (is_functor fun) (IsFunctor fun)
a_functor fun = as_well
    (both (both (environment fun.param) (environment fun.result)) (both (binding fun) (numbering fun)))
    (λ h. record {
      param = h.0.0;
      result = h.0.1;
      bound = h.1.0.0;
      further = h.1.0.1;
      bound_numbered = h.1.1.0;
      further_numbered = h.1.1.1.0;
      agree = functor_agrees fun h.1.0.0 h.1.0.1 h.1.1.0 h.1.1.1.0;
      bound_counted = h.1.1.1.1.0;
      further_counted = h.1.1.1.1.1;
    })
    (λ h. (
      (h.param, h.result),
      (
        (h.bound, h.further),
        (h.bound_numbered, (h.further_numbered, (h.bound_counted, h.further_counted))),
      ),
    ))

signatures : (rows : Table Signature)
    → Tells (are_signatures rows) (AreNames (names_of rows) × All IsSignatureRow rows)
signatures rows = both (names (names_of rows)) (each is_signature_row IsSignatureRow (λ row. signature row.1) rows)

functors : (rows : Table Functor) → Tells (are_functors rows) (AreNames (names_of rows) × All IsFunctorRow rows)
functors rows = both (names (names_of rows)) (each is_functor_row IsFunctorRow (λ row. a_functor row.1) rows)

env_alone : (env : Env) → Tells (has_env_alone env) (IsEnv env × ((types env ≡ []) × (values env ≡ [])))
env_alone env = both (environment env) (both (some_list (types env)) (some_list (values env)))

with_tables : (top : Top) → Tells (has_tables top) (HasTables top)
with_tables top = as_well
    (both (env_alone top.env) (both (signatures top.signatures) (both (functors top.functors) (functors top.funsigs))))
    (λ h. record {
      env = h.0.0;
      no_types = h.0.1.0;
      no_values = h.0.1.1;
      signature_names = h.1.0.0;
      functor_names = h.1.1.0.0;
      funsig_names = h.1.1.1.0;
      signatures = h.1.0.1;
      functors = h.1.1.0.1;
      funsigs = h.1.1.1.1;
    })
    (λ h. (
      (h.env, (h.no_types, h.no_values)),
      (
        (h.signature_names, h.signatures),
        (
          (h.functor_names, h.functors),
          (h.funsig_names, h.funsigs),
        ),
      ),
    ))

with_names : (home : List ℕ) (top : Top) → Tells (has_names home top) (HasNames home top)
with_names home top = as_well
    (both (numbered 0 (met (is_own home) (names_in_top top)))
    (both (agreeing (filter (is_other home) (names_in_top top)))
    (some_list (filter is_bound_name (names_in_env top.env)))))
    (λ h. record { own = h.0; agree = names_agree.unit home (names_in_top top) h.0 h.1.0; inside = h.1.1 })
    (λ h. (h.own, (fewer home (names_in_top top) h.agree, h.inside)))
  where
    fewer : (home : List ℕ) (list : List TyName) → Agree (filter is_not_bound list)
        → Agree (filter (is_other home) list)
    fewer home list h = record {
      agree = λ m n l r o s. h.agree m n (other_is home list m l) (other_is home list n r) o s;
    }

pub an_interface : (home bytes : List ℕ) (top : Top) → Tells (is_interface home bytes top) (IsInterface home bytes top)
an_interface home bytes top = as_well
    (both (with_tables top) (both (with_names home top)
    (both (least (length (nodes_of interfaces (top_node home top))) (2 ^ 32))
    (text bytes (interface_bytes home top)))))
    (λ h. record { rules = record { tables = h.0; names = h.1.0; nodes = h.1.1.0 }; spelled = h.1.1.1 })
    (λ h. (h.rules.tables, (h.rules.names, (h.rules.nodes, h.spelled))))
