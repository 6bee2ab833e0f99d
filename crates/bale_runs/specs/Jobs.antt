-- How the commands of words are driven and carried.
use Rattle.std.specs.Prelude.{Bool, true, false, ◌&&◌}
use Rattle.bale_words.specs.declared.command.Command.{Command}
use Rattle.bale_words.specs.declared.task.Task.{Task}
use Rattle.bale_words.specs.declared.task.Task.TheVariants as task
use Rattle.bale_words.specs.declared.command.Transport.{Transport}
use Rattle.bale_words.specs.declared.command.Transport.TheVariants.{Exstack, Biconvey}
use Rattle.bale_words.specs.declared.command.Driving.{Driving}
use Rattle.bale_words.specs.declared.command.Driving.TheVariants.{Serial}
use Rattle.rank_node.specs.declared.via.Via.{Via}
use Rattle.rank_node.specs.declared.via.Via.TheVariants as via
use Rattle.rank_node.specs.Movers.{Manner, manner_of}

abbrev pub is_serial : Driving → Bool
is_serial Serial = true
is_serial _ = false

-- Which commands are driven on one thread: all, or those whose words say so.
abbrev pub on_one_thread : Command → Bool
on_one_thread c = true

abbrev pub as_asked : Command → Bool
as_asked c = is_serial c.travel.driving

abbrev pub is_ig : Task → Bool
is_ig task.Ig = true
is_ig _ = false

abbrev pub is_biconvey : Transport → Bool
is_biconvey Biconvey = true
is_biconvey _ = false

-- Which commands go by queries and replies: ig over biconvey. No words give another task this
-- transport.
-- The words ig, --via, biconvey do, and the word ig alone doesn't.
abbrev pub by_asking : Command → Bool
by_asking c = is_biconvey c.travel.transport && is_ig c.task

-- How the rounds of a command are carried: over exstacks if its words say so, else over
-- conveyors.
abbrev pub via_of : Transport → Via
via_of Exstack = via.Exstack
via_of _ = via.Convey

abbrev pub manner_for : Command → Manner
manner_for c = manner_of (via_of c.travel.transport) c.travel.steady
