-- The state of a rank of topo, read from the fields.
use Rattle.app_topo.specs.declared.topo.Topo.TheInside.{Inside}
use Rattle.app_topo.specs.code.TopoSent.{topo_sent}
use Rattle.app_topo.specs.Topos.{TopoState}

abbrev pub topo_state : Inside → TopoState
topo_state s =
    record {
      rank = s.rank;
      ranks = s.ranks;
      round = s.round;
      size = s.size;
      numbers = s.numbers.items;
      sums = s.sums.items;
      columns = s.columns.items;
      counts = s.counts.items;
      claimed = s.claimed.items;
      fresh = s.fresh;
      came = s.came;
      outgoing = topo_sent s.round s.ranks s.outgoing.items;
    }
