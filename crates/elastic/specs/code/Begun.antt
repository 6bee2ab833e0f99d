-- What reading item by item keeps.
use Rattle.std.specs.Prelude.{List, [], ◌∷◌, ◌++◌, if◌then◌else◌}
use Rattle.bale_items.specs.declared.Item.{Item}
use Rattle.elastic.specs.Mails.{is_whole}

-- The items of the letter that is begun after a list of items, if these were begun before it.
-- After spelling l it is [] again; after the first item alone of a letter of 17 bytes it is that
-- item.
abbrev pub begun_items : List Item → List Item → List Item
begun_items begun [] = begun
begun_items begun (x ∷ xs) = begun_items (if is_whole (begun ++ x ∷ []) then [] else begun ++ x ∷ []) xs
