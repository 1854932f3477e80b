-- What is printed for a question about the map.
-- The bound on the levels in `answer_text` loses nothing of a well formed tree (`is-answer` in `proofs/Shapes.antt`).
use Rattle.std.specs.Prelude.{◌≡◌, ℕ, zero, suc, List, [], ◌∷◌, ◌++◌, length, map, Option, Some, None, Vec, codes}
use Rattle.std.specs.FinMap as finite
use Rattle.std.specs.Fmt.{decimal}
use Rattle.std.specs.List.{flat_map, join_with_byte, AllByRecursion}
use Rattle.btree_view.specs.View.{View, leaf, internal, NodeMap}
use Rattle.btree_laws.specs.TreeState.{TreeState, node_map, pairs_of}
use Rattle.btree_session.specs.declared.question.Question.{Question}
use Rattle.btree_session.specs.declared.question.Question.TheVariants as questions
use Rattle.btree_session.specs.Text.{LacksRoomFor, Pushes, as_line}

-- the text of a pair
abbrev pub pair_text : ℕ × ℕ → List ℕ
pair_text pair = decimal pair.0 ++ codes "=" ++ decimal pair.1

-- the text of a list: its pairs with one space between
abbrev pub list_text : List (ℕ × ℕ) → List ℕ
list_text [] = codes "empty"
list_text (pair ∷ pairs) = join_with_byte 32 (map pair_text (pair ∷ pairs))

-- texts in brackets, with one space between
abbrev pub bracketed : List (List ℕ) → List ℕ
bracketed texts = codes "(" ++ join_with_byte 32 texts ++ codes ")"

-- the text of a leaf: its keys
abbrev pub leaf_text : List (ℕ × ℕ) → List ℕ
leaf_text items = bracketed (map (λ pair. decimal pair.0) items)

-- the text of node `id`, `height` levels above the leaves, with all nodes below it: a leaf is written as its keys; an
-- internal node as its first child, and then each key and the child after it
abbrev pub IsWritten : NodeMap (ℕ × ℕ) → (height : ℕ) → (id : ℕ) → List ℕ → Type 0
IsWritten node_at zero id text =
    (parent : Option ℕ) × (items : List (ℕ × ℕ)) × (node_at id ≡ Some (leaf parent items)) × (text ≡ leaf_text items)
IsWritten node_at (suc height) id text =
    (parent : Option ℕ) × (first : ℕ) × (front : List ℕ) × (rest : List ((ℕ × ℕ) × ℕ × List ℕ))
    × (node_at id ≡ Some (internal parent first (map (λ r. (r.0, r.1)) rest)))
    × IsWritten node_at height first front
    × AllByRecursion (λ r. IsWritten node_at height r.1 r.2) rest
    × (text ≡ bracketed (front ∷ flat_map (λ r. decimal r.0.0 ∷ r.2 ∷ []) rest))

-- the text of a tree: that of its root, whatever the height; without pairs it is two brackets
abbrev pub IsShapeOf : NodeMap (ℕ × ℕ) → (root : Option ℕ) → List ℕ → Type 0
IsShapeOf node_at None text = text ≡ codes "()"
IsShapeOf node_at (Some root) text = (height : ℕ) × IsWritten node_at height root text

-- the answer to a question about a map
abbrev pub IsAnswer : TreeState ℕ ℕ → Question → List ℕ → Type 0
IsAnswer m questions.List text = text ≡ list_text (pairs_of m)
IsAnswer m questions.Len text = text ≡ decimal (length (pairs_of m))
IsAnswer m questions.Nodes text = text ≡ decimal (finite.len m.nodes)
IsAnswer m questions.Shape text = IsShapeOf (node_map m) m.root text

-- the answer to a question was appended to a text, on a line of its own
abbrev pub Answers : {Z : Type 0} → TreeState ℕ ℕ → Question → (text more : Vec ℕ Z) → Type 0
Answers m question text more = (answer : List ℕ) × IsAnswer m question answer × Pushes text more (as_line answer)

-- a text without room for the answer to a question about a map
abbrev pub LacksRoomToAnswer : {Z : Type 0} → TreeState ℕ ℕ → Question → (text : Vec ℕ Z) → Type 0
LacksRoomToAnswer m question text = (answer : List ℕ) × IsAnswer m question answer × LacksRoomFor text answer

-- Below, the same as functions, in the steps in which code prints it.

-- the text of a node, given that of each child: a leaf's keys, or an internal node's children and keys in turn
abbrev pub shape_in : (ℕ → List ℕ) → Option (View (ℕ × ℕ)) → List ℕ
shape_in below None = []
shape_in below (Some (leaf parent items)) = leaf_text items
shape_in below (Some (internal parent first branches)) =
    bracketed (below first ∷ flat_map (λ b. decimal b.0.0 ∷ below b.1 ∷ []) branches)

-- the text of a node and of those below it, down to at most `levels` levels
abbrev pub shape_under : NodeMap (ℕ × ℕ) → (levels : ℕ) → (id : ℕ) → List ℕ
shape_under node_at zero id = []
shape_under node_at (suc levels) id = shape_in (shape_under node_at levels) (node_at id)

-- the text of a tree's nodes; a tree has at most as many levels as pairs
abbrev pub shape_text : NodeMap (ℕ × ℕ) → (root : Option ℕ) → (len : ℕ) → List ℕ
shape_text node_at None len = codes "()"
shape_text node_at (Some root) len = shape_under node_at len root

-- the text of the answer to a question
abbrev pub answer_text : TreeState ℕ ℕ → Question → List ℕ
answer_text m questions.List = list_text (pairs_of m)
answer_text m questions.Len = decimal (length (pairs_of m))
answer_text m questions.Nodes = decimal (finite.len m.nodes)
answer_text m questions.Shape = shape_text (node_map m) m.root m.len
