-- A parcel's contents by their parts.
use Rattle.std.proofs.Common.{◌≡◌, ℕ, List, Option, Bool}
use Rattle.bale_items.specs.declared.item.Entry.{Entry}
use Rattle.item_buffer.specs.Contents.{Contents}

pub same_contents : (u v : List Entry) (l m : Bool) (e f : ℕ) (b c : Option Entry) (s t : ℕ) → u ≡ v → l ≡ m → e ≡ f → b ≡ c → s ≡ t
    → ◌≡◌ {A = Contents} (record { untaken = u; last = l; epoch = e; back = b; taken = s }) (record { untaken = v; last = m; epoch = f; back = c; taken = t })
same_contents u v l m e f b c s t p q r x y = cc
