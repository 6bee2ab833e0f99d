-- A rank's lists are of its own links.
use Rattle.std.specs.Prelude.{◌≡◌, ◌≢◌, ℕ, List, [], length}
use Rattle.item_buffer.specs.Contents.{Contents}
use Rattle.route_tensor.specs.Link.{links}
use Rattle.route_tensor.specs.Ends.{sender_at, reader_at}
use Rattle.link_slots.specs.Logs.{Lists, sent_of, got_of}

-- The rank has lists of every link, posted nothing on a link that starts elsewhere, and collected
-- nothing of one that ends elsewhere.
-- Example: in the grid 2, link 1 leads from rank 0 to rank 1: rank 1 posted nothing there, and rank
-- 0 collected nothing.
pub record IsOwn (dims : List ℕ) (r : ℕ) (x : Lists Contents) : Type 0 where
  pub outs : length x.outs ≡ links dims
  pub ins : length x.ins ≡ links dims
  pub sent : (l : ℕ) → sender_at dims l ≢ r → sent_of x l ≡ []
  pub got : (l : ℕ) → reader_at dims l ≢ r → got_of x l ≡ []
