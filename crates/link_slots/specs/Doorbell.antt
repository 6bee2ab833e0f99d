-- When a collect hears a doorbell, and when it looks in.
use Rattle.std.specs.Prelude.{◌≡◌, ℕ, suc, ◌+◌, ◌-◌, ◌≤◌, Bool, true, false, not, ◌&&◌, leb, List}
use Rattle.link_slots.specs.Logs.{InLog}
use Rattle.link_slots.specs.Link.{bit_of}
use Rattle.link_slots.specs.StepEffects.{heard_by}
use Rattle.list_laws.specs.Counts.{saturated_count}

module _ {T : Type 0} where
  -- A hear is due if the link isn't marked, and its doorbell wasn't heard since the end of its
  -- latest collect, when `noted` hears were taken down.
  -- Example: a link that was never heard has 0 hears and 0 noted, and a hear is due; after that
  -- hear none is due for the other links of the hop, which have 1 hear and 0 noted.
  abbrev pub is_due : ℕ → InLog T → Bool
  is_due noted i = not i.marked && leb (saturated_count i.hears) noted

  -- What a link in becomes by the hear of its doorbell, if there was one: its bit was found or not,
  -- and if it was the link is marked.
  abbrev pub HeardWhere : Bool → InLog T → InLog T → Type 0
  HeardWhere true i j = (j ≡ heard_by (j.heard - i.heard) i) × (j.heard ≤ suc i.heard)
  HeardWhere false i j = j ≡ i

  -- What a link in becomes by a look in, if it was marked: what is seen then is `seen`, and the
  -- mark is taken away.
  abbrev pub looked_where_marked : List T → InLog T → InLog T
  looked_where_marked seen i =
      record i { seen = seen; marked = false; look_ins = i.look_ins + bit_of i.marked }

  -- A link of which no parcel was known, after a collect: its doorbell was heard if a hear was
  -- due and not else, and the link was looked in if it was then marked and not else.
  pub record LookedFor (noted : ℕ) (i j : InLog T) : Type 0 where
    pub hears : j.hears ≡ i.hears + bit_of (is_due noted i)
    pub heard : i.heard ≤ j.heard
    pub one_bit : j.heard ≤ i.heard + bit_of (is_due noted i)
    pub look_ins : j.look_ins ≡ i.look_ins + bit_of i.marked + (j.heard - i.heard)
    pub unmarked : j.marked ≡ false
