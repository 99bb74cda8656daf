-- What the nodes of an interface say, read off their pieces and parts. Where a node is that of a top, this is the top;
-- of any other node something or other is said.
use Rattle.std.specs.Prelude.{ℕ, zero, suc, ◌==◌, if◌then◌else◌, List, [], ◌∷◌, map, Bool}
use Rattle.std.specs.List.{zip}
use Rattle.node_bytes.specs.Nodes.{Node, Content}
use Rattle.node_bytes.specs.Shapes.{number}
use Rattle.semantic_objects.specs.declared.name.Owner.{Owner}
use Rattle.semantic_objects.specs.declared.name.Owner.TheVariants as owner
use Rattle.semantic_objects.specs.declared.name.TyName.{TyName}
use Rattle.semantic_objects.specs.declared.symbol.Symbol.{Symbol}
use Rattle.semantic_objects.specs.declared.symbol.Symbol.TheVariants as symbol
use Rattle.semantic_objects.specs.declared.entry.ConEntry.{ConEntry}
use Rattle.semantic_objects.specs.declared.entry.TypeFn.{TypeFn}
use Rattle.semantic_objects.specs.declared.entry.TypeStr.{TypeStr}
use Rattle.semantic_objects.specs.declared.entry.ValueEntry.{ValueEntry}
use Rattle.semantic_objects.specs.declared.entry.VidStatus.{VidStatus}
use Rattle.semantic_objects.specs.declared.entry.VidStatus.TheVariants as status
use Rattle.semantic_objects.specs.Tables.{Table, names_of}
use Rattle.semantic_objects.specs.Trees.{Tree, Trees, TypeScheme}
use Rattle.semantic_objects.specs.Environments.{Env, Signature, Functor, Top, env_of}
use Rattle.realisation.specs.Names.{names_in_env}
use Rattle.realisation.specs.Canonical.{met, is_bound_name}
use Rattle.interface_format.specs.Trees.{no_node}
use Rattle.interface_format.specs.Rules.{is_beyond}
use Rattle.interface_format.specs.Tags.{ValueRow}

-- ---- fields

-- what stands in front: a piece, or a part
abbrev pub piece_of : Content → List ℕ
piece_of Content.nothing = []
piece_of (Content.piece bytes rest) = bytes
piece_of (Content.part x rest) = []

abbrev pub part_of : Content → Node
part_of Content.nothing = no_node
part_of (Content.piece bytes rest) = no_node
part_of (Content.part x rest) = x

-- what stands behind that
abbrev pub past : Content → Content
past Content.nothing = Content.nothing
past (Content.piece bytes rest) = rest
past (Content.part x rest) = rest

-- a number and a byte in front
abbrev pub number_of : Content → ℕ
number_of c = number (piece_of c)

abbrev pub first_of : List ℕ → ℕ
first_of [] = 0
first_of (b ∷ bytes) = b

abbrev pub byte_of : Content → ℕ
byte_of c = first_of (piece_of c)

-- a text in front: its length, and its bytes
abbrev pub text_of : Content → List ℕ
text_of c = piece_of (past c)

abbrev pub past_text : Content → Content
past_text c = past (past c)

-- all parts
abbrev pub parts_of : Content → List Node
parts_of Content.nothing = []
parts_of (Content.piece bytes rest) = parts_of rest
parts_of (Content.part x rest) = x ∷ parts_of rest

-- so many names with a node each, and what stands behind them
abbrev pub rows_of : ℕ → Content → Table Node
rows_of zero c = []
rows_of (suc n) c = (text_of c, part_of (past_text c)) ∷ rows_of n (past (past_text c))

abbrev pub past_rows : ℕ → Content → Content
past_rows zero c = c
past_rows (suc n) c = past_rows n (past (past_text c))

-- a list of them
abbrev pub list_of : Content → Table Node
list_of c = rows_of (number_of c) (past c)

abbrev pub past_list : Content → Content
past_list c = past_rows (number_of c) (past c)

-- so many values
abbrev pub status_of : ℕ → VidStatus
status_of b = if b == 0 then status.Variable else (if b == 1 then status.Constructor else status.Exception)

abbrev pub values_of : ℕ → Content → List ValueRow
values_of zero c = []
values_of (suc n) c = record {
  name = text_of c;
  status = status_of (byte_of (past_text c));
  scheme = part_of (past (past_text c));
} ∷ values_of n (past (past (past_text c)))

abbrev pub value_list_of : Content → List ValueRow
value_list_of c = values_of (number_of c) (past c)

-- ---- types

-- whose a type name is, in an interface of the unit `home`
abbrev pub owner_of : List ℕ → Content → Owner
owner_of home c =
    if byte_of c == 0 then owner.Basis
    else (if byte_of c == 1 then owner.«Unit» home
    else (if byte_of c == 2 then owner.«Unit» (text_of (past c)) else owner.Bound))

abbrev pub past_owner : Content → Content
past_owner c = if byte_of c == 2 then past_text (past c) else past c

-- a number, an arity, and a byte for equality
abbrev pub name_by : Owner → Content → TyName
name_by owner c = record {
  owner = owner;
  number = number_of c;
  arity = number_of (past c);
  eq = byte_of (past (past c)) == 1;
}

abbrev pub type_name_of : List ℕ → Content → TyName
type_name_of home c = name_by (owner_of home c) (past_owner c)

abbrev pub symbol_of : List ℕ → ℕ → Content → Symbol
symbol_of home tag c =
    if tag == 3 then symbol.Arrow
    else (if tag == 2 then symbol.Record (names_of (list_of c)) else symbol.Name (type_name_of home c))

abbrev pub tree_by : List ℕ → ℕ → Content → Trees → Tree
tree_by home tag c parts = if tag == 1 then Tree.Bound (number_of c) else Tree.Made (symbol_of home tag c) parts

abbrev mutual
  pub tree_of : List ℕ → Node → Tree
  tree_of home (Node.node tag c) = tree_by home tag c (trees_in home c)

  -- of all parts
  pub trees_in : List ℕ → Content → Trees
  trees_in home Content.nothing = Trees.Nil
  trees_in home (Content.piece bytes rest) = trees_in home rest
  trees_in home (Content.part x rest) = Trees.Cons (tree_of home x) (trees_in home rest)

-- ---- entries

abbrev pub content_of : Node → Content
content_of (Node.node tag c) = c

abbrev pub function_by : List ℕ → Content → TypeFn
function_by home c = record { arity = number_of c; body = tree_of home (part_of (past c)) }

abbrev pub function_of : List ℕ → Node → TypeFn
function_of home x = function_by home (content_of x)

abbrev pub is_one : ℕ → Bool
is_one b = b == 1

abbrev pub scheme_by : List ℕ → Content → TypeScheme
scheme_by home c = record { marks = map is_one (text_of c); body = tree_of home (part_of (past_text c)) }

abbrev pub scheme_of : List ℕ → Node → TypeScheme
scheme_of home x = scheme_by home (content_of x)

abbrev pub con_of : List ℕ → List ℕ × Node → ConEntry
con_of home row = record { name = row.0; scheme = scheme_of home row.1 }

abbrev pub type_by : List ℕ → Content → TypeStr
type_by home c = record { function = function_of home (part_of c); cons = map (con_of home) (list_of (past c)) }

abbrev pub type_of : List ℕ → Node → TypeStr
type_of home x = type_by home (content_of x)

abbrev pub value_of : List ℕ → ValueRow → List ℕ × ValueEntry
value_of home row = (row.name, record { status = row.status; scheme = scheme_of home row.scheme })

-- ---- environments

-- a table of what the nodes of rows say
abbrev pub table_by : {A : Type 0} → (Node → A) → Table Node → Table A
table_by say rows = map (λ row. (row.0, say row.1)) rows

-- the environments of the first parts are those of the structures
abbrev pub env_by : List ℕ → Content → List Env → Env
env_by home c envs = env_of (zip (names_of (list_of c)) envs) (table_by (type_of home) (list_of (past_list c)))
    (map (value_of home) (value_list_of (past_list (past_list c))))

abbrev mutual
  pub environment_of : List ℕ → Node → Env
  environment_of home (Node.node tag c) = env_by home c (environments_in home c)

  pub environments_in : List ℕ → Content → List Env
  environments_in home Content.nothing = []
  environments_in home (Content.piece bytes rest) = environments_in home rest
  environments_in home (Content.part x rest) = environment_of home x ∷ environments_in home rest

-- ---- signatures, functors and tops

-- a signature and a functor bind the bound names that occur in them
abbrev pub signature_by : Env → Signature
signature_by env = record { bound = met is_bound_name (names_in_env env); env = env }

abbrev pub signature_of : List ℕ → Node → Signature
signature_of home x = signature_by (environment_of home (part_of (past (content_of x))))

abbrev pub functor_by : Env → Env → Functor
functor_by param result = record {
  bound = met is_bound_name (names_in_env param);
  param = param;
  further = met (is_beyond (met is_bound_name (names_in_env param))) (names_in_env result);
  result = result;
}

abbrev pub functor_in : List ℕ → Content → Functor
functor_in home c =
    functor_by (environment_of home (part_of (past c))) (environment_of home (part_of (past (past (past c)))))

abbrev pub functor_of : List ℕ → Node → Functor
functor_of home x = functor_in home (content_of x)

abbrev pub top_by : List ℕ → Content → Top
top_by home c = record {
  env = env_of (table_by (environment_of home) (list_of c)) [] [];
  signatures = table_by (signature_of home) (list_of (past_list c));
  functors = table_by (functor_of home) (list_of (past_list (past_list c)));
  funsigs = table_by (functor_of home) (list_of (past_list (past_list (past_list c))));
}

abbrev pub top_of : List ℕ → Node → Top
top_of home x = top_by home (content_of x)
