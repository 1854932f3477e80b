-- Reading a tree from left to right, with the first fault that is met.
use Rattle.std.specs.Prelude.{⊤, ℕ, zero, suc, ◌-◌, Bool, ◌||◌, List, [], ◌∷◌, length, take, drop, Option, Some, None, Result, Ok, Err, nat_lt, ◌==◌, if◌then◌else◌}
use Rattle.std.specs.Int.{w64, from_be_bytes}
use Rattle.btree_item.specs.declared.TheConstants.{INTERNAL_SLOTS, LEAF_SLOTS}
use Rattle.btree_view.specs.Kept.{node_of}
use Rattle.btree_view.specs.View.{View}
use Rattle.btree_view.specs.View.{leaf, internal}
use Rattle.btree_image.specs.declared.TheConstants.{MAGIC, VERSION}
use Rattle.btree_image.specs.declared.fault.BadImage.{BadImage}
use Rattle.btree_image.specs.declared.fault.BadImage.TheVariants.{Short, Magic, Version, Kind, Count, Value, Vacant, Sum, Trailing}
use Rattle.btree_image.specs.declared.fault.Stop.{Stop}
use Rattle.btree_image.specs.declared.head.Head.{Head}
use Rattle.btree_image.specs.Image.{Image, check_sum}
use Rattle.btree_image.specs.Parse.{Parse}
use Rattle.btree_spelled.specs.Spelled.{Read}

infixl 10 ◌>>=◌
abbrev pub ◌>>=◌ : {A B : Type 0} → Result A Stop → (A → Result B Stop) → Result B Stop
(Ok x) >>= f = f x
(Err e) >>= f = Err e

-- this fault, where these bytes are left
abbrev pub stop : {X : Type 0} → BadImage → List ℕ → Result X Stop
stop fault bytes = Err (record { fault = fault; left = length bytes })

unfoldable pub word_at : Parse ℕ
word_at bytes = if nat_lt (length bytes) 8 then stop Short bytes else Ok (from_be_bytes w64 (take 8 bytes), drop 8 bytes)

-- this very word
unfoldable pub this_at : ℕ → BadImage → Parse ℕ
this_at wanted fault bytes = do
  n ← word_at bytes
  if n.0 == wanted then Ok n else stop fault bytes

unfoldable pub number_at : Parse (Option ℕ)
number_at bytes = do
  n ← word_at bytes
  Ok (node_of n.0, n.1)

-- at least 1, and at most `most`
unfoldable pub count_at : (most : ℕ) → Parse ℕ
count_at most bytes = do
  n ← word_at bytes
  if n.0 == 0 || nat_lt most n.0 then stop Count bytes else Ok n

abbrev pub found : {X : Type 0} → List ℕ → Option (X × List ℕ) → Result (X × List ℕ) Stop
found bytes None = stop Value bytes
found bytes (Some x) = Ok x

-- a value of a type of its own
abbrev pub value_at : {X : Type 0} → Read X → Parse X
value_at read bytes = found bytes (read bytes)

unfoldable pub head_at : Parse Head
head_at bytes = do
  magic ← this_at MAGIC Magic bytes
  version ← this_at VERSION Version magic.1
  root ← number_at version.1
  len ← word_at root.1
  limit ← word_at len.1
  count ← word_at limit.1
  Ok (record { root = root.0; len = len.0; limit = limit.0; count = count.0 }, count.1)

-- the check sum of the bytes before these last ones, and nothing more
unfoldable pub end_at : (all : List ℕ) → List ℕ → Result ⊤ Stop
end_at all bytes = do
  sum ← this_at (check_sum (take (length all - length bytes) all)) Sum bytes
  if length sum.1 == 0 then Ok tt else stop Trailing sum.1

abbrev pub image_of : {A : Type 0} → Head → List (Option (View A)) → Image A
image_of head places = record { root = head.root; len = head.len; limit = head.limit; places = places }

-- so many of them, one after the other; each knows how many come after it
unfoldable pub many : {X : Type 0} → (ℕ → Parse X) → ℕ → Parse (List X)
many parse zero bytes = Ok ([], bytes)
many parse (suc n) bytes = do
  first ← parse n bytes
  others ← many parse n first.1
  Ok (first.0 ∷ others.0, others.1)

module _ {K V : Type 0} (read_key : Read K) (read_value : Read V) where
  unfoldable pub item_at : Parse (K × V)
  item_at bytes = do
    key ← value_at read_key bytes
    value ← value_at read_value key.1
    Ok ((key.0, value.0), value.1)

  unfoldable pub branch_at : Parse ((K × V) × ℕ)
  branch_at bytes = do
    item ← item_at bytes
    child ← word_at item.1
    Ok ((item.0, child.0), child.1)

  unfoldable pub leaf_with : (parent : Option ℕ) → (count : ℕ) → Parse (View (K × V))
  leaf_with parent count bytes = do
    items ← many (λ left. item_at) count bytes
    Ok (leaf parent items.0, items.1)

  unfoldable pub leaf_at : Parse (View (K × V))
  leaf_at bytes = do
    parent ← number_at bytes
    count ← count_at LEAF_SLOTS parent.1
    leaf_with parent.0 count.0 count.1

  unfoldable pub internal_with : (parent : Option ℕ) → (first count : ℕ) → Parse (View (K × V))
  internal_with parent first count bytes = do
    branches ← many (λ left. branch_at) count bytes
    Ok (internal parent first branches.0, branches.1)

  unfoldable pub internal_at : Parse (View (K × V))
  internal_at bytes = do
    parent ← number_at bytes
    count ← count_at INTERNAL_SLOTS parent.1
    first ← word_at count.1
    internal_with parent.0 first.0 count.0 first.1

  abbrev pub some_node : Result (View (K × V) × List ℕ) Stop → Result (Option (View (K × V)) × List ℕ) Stop
  some_node read = read >>= λ n. Ok (Some n.0, n.1)

  -- what follows a place's first word, which begins the bytes `all`; the last place has a node
  abbrev pub node_at : (is_last : Bool) → (all : List ℕ) → (kind : ℕ) → Parse (Option (View (K × V)))
  node_at is_last all zero bytes = if is_last then stop Vacant all else Ok (None, bytes)
  node_at is_last all (suc zero) bytes = some_node (leaf_at bytes)
  node_at is_last all (suc (suc zero)) bytes = some_node (internal_at bytes)
  node_at is_last all (suc (suc (suc n))) bytes = stop Kind all

  unfoldable pub place_at : (is_last : Bool) → Parse (Option (View (K × V)))
  place_at is_last bytes = do
    kind ← word_at bytes
    node_at is_last bytes kind.0 kind.1

  abbrev pub places_at : ℕ → Parse (List (Option (View (K × V))))
  places_at count bytes = many (λ left. place_at (left == 0)) count bytes

  unfoldable pub body_at : Parse (Image (K × V))
  body_at bytes = do
    head ← head_at bytes
    places ← places_at head.0.count head.1
    Ok (image_of head.0 places.0, places.1)

  -- all of the bytes: a body and its check sum
  unfoldable pub image_at : List ℕ → Result (Image (K × V)) Stop
  image_at bytes = do
    image ← body_at bytes
    end ← end_at bytes image.1
    Ok image.0
