mod ByHand
mod OverPlain
