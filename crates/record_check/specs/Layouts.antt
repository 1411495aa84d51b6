-- The layout of side information as one value, and how large it gets.
use Rattle.std.specs.Prelude.{◌≡◌, Bool, ◌≤◌}
use Rattle.standard.specs.Header.{side_bytes}
use Rattle.standard.specs.SideInfo.{begin_width, shares_at, share_count, slot_count}
use Rattle.record_check.specs.declared.layout.Layout.{Layout}

abbrev pub layout_of : Bool → Bool → Layout
layout_of mpeg1 two =
    record {
      main_data_begin = begin_width mpeg1;
      prefix = shares_at mpeg1 two;
      shares = share_count mpeg1 two;
      slots = slot_count mpeg1 two;
      size = side_bytes mpeg1 two;
    }

pub record LaidOut (mpeg1 two : Bool) (l : Layout) : Type 0 where
  pub same : l ≡ layout_of mpeg1 two
  pub begin_few : l.main_data_begin ≤ 9
  pub prefix : l.prefix ≤ 14
  pub shares : l.shares ≤ 8
  pub slots : l.slots ≤ 4
  pub size : l.size ≤ 32
