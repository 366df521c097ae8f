-- The bridge, all calls together.
-- Assumes nothing.
use Rattle.bridge.specs.Bridged.{Bridge}
use Rattle.bridge.proofs.SetupCall.{setup_bridge}
use Rattle.bridge.proofs.ReadCall.{read_bridge}
use Rattle.bridge.proofs.WriteCall.{write_bridge}
use Rattle.bridge.proofs.TickCall.{tick_bridge}
use Rattle.bridge.proofs.TakeCall.{take_bridge}
use Rattle.bridge.proofs.RefreshCall.{refresh_bridge}
use Rattle.bridge.proofs.MoveCall.{move_bridge}
use Rattle.bridge.proofs.ListCall.{list_bridge}

pub the_bridge : Bridge
the_bridge = record {
  of_setup = setup_bridge;
  of_read = λ l F c k r l' t. read_bridge l F c k _ l' t.answer t.book;
  of_write = λ l F c k payload r l' t. write_bridge l F c k payload _ l' t.answer t.book;
  of_tick = λ l F d s r l' t. tick_bridge l F d s _ l' t.answer t.book;
  of_take = λ l F d s from r l' t. take_bridge l F d s from _ l' t.answer t.book;
  of_refresh = λ l F d s r l' t. refresh_bridge l F d s _ l' t.answer t.book;
  of_move = λ l F c d r l' t. move_bridge l F c d _ l' t.answer t.book;
  of_list = λ l F c ks r l' t. list_bridge l F c ks _ l' t.answer t.book;
}
