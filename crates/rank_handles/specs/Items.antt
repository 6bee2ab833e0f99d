-- Items as C has them: the same three words.
use Rattle.std.specs.Prelude.{ℕ, Result, Ok, Err}
use Rattle.bale_items.specs.declared.item.Item.{Item}
use Rattle.rank_handles.specs.declared.answer.Answer.{Answer}
use Rattle.rank_handles.specs.declared.item.BaleItem.{BaleItem}

abbrev pub item_of : BaleItem → Item
item_of i = record { a = i.a; b = i.b; c = i.c }

abbrev pub bale_item : Item → BaleItem
bale_item i = record { a = i.a; b = i.b; c = i.c }

-- What a pull leaves in the places for the item and its sender: what was there, if it gave none.
abbrev pub item_given : Result (ℕ × Item) Answer → BaleItem → BaleItem
item_given (Ok p) there = bale_item p.1
item_given (Err a) there = there

abbrev pub sender_given : Result (ℕ × Item) Answer → ℕ → ℕ
sender_given (Ok p) there = p.0
sender_given (Err a) there = there
