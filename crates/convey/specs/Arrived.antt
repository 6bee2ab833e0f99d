-- When the last parcel of an epoch may be sent on a link out.
use Rattle.std.specs.Prelude.{◌≡◌, ℕ, ◌+◌, ◌<◌, true, []}
use Rattle.route_tensor.specs.Link.{links}
use Rattle.route_tensor.specs.Ends.{hop_at, reader_at}
use Rattle.convey.specs.Buffers.{Buffers}

-- All that a link out is to pass on has come: each link in of the hop before has ended, and was
-- passed on.
-- For a link of hop 1 it says nothing.
pub record HasArrived (b : Buffers) (l : ℕ) : Type 0 where
  pub ended : (m : ℕ) → m < links b.dims → reader_at b.dims m ≡ b.rank → hop_at b.dims l ≡ hop_at b.dims m + 1
      → b.ended m ≡ true
  pub passed_on : (m : ℕ) → m < links b.dims → reader_at b.dims m ≡ b.rank → hop_at b.dims l ≡ hop_at b.dims m + 1
      → b.unread m ≡ []
