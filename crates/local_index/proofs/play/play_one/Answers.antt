use Rattle.std.proofs.Common.{refl}
use Rattle.local_index.proofs.DeskLemmas.{if_err}
use Rattle.local_index.proofs.play.play_one.Goals as goal

pub returns-in-Open : goal.returns-in-Open
returns-in-Open g c = record {
  step = rw c.in-Open.is c.play_open.ensures.step;
  memory = tt;
  index_kept = tt;
  desk_kept = tt;
  serves = c.play_open.ensures.serves;
  keeps_all = c.play_open.ensures.keeps_all;
}

pub returns-in-Close : goal.returns-in-Close
returns-in-Close g c = record {
  step = rw c.in-Close.is c.play_close.ensures.step;
  memory = tt;
  index_kept = tt;
  desk_kept = tt;
  serves = c.play_close.ensures.serves;
  keeps_all = c.play_close.ensures.keeps_all;
}

pub returns-in-Get : goal.returns-in-Get
returns-in-Get g c = record {
  step = rw c.in-Get.is c.play_read.ensures.step;
  memory = rw c.in-Get.is c.play_read.ensures.memory;
  index_kept = if_err c.play_read.result refl;
  desk_kept = c.play_read.ensures.err;
  serves = c.play_read.ensures.serves;
  keeps_all = c.play_read.ensures.keeps_all;
}

pub returns-in-Contains : goal.returns-in-Contains
returns-in-Contains g c = record {
  step = rw c.in-Contains.is c.play_read-in-Contains.ensures.step;
  memory = rw c.in-Contains.is c.play_read-in-Contains.ensures.memory;
  index_kept = if_err c.play_read-in-Contains.result refl;
  desk_kept = c.play_read-in-Contains.ensures.err;
  serves = c.play_read-in-Contains.ensures.serves;
  keeps_all = c.play_read-in-Contains.ensures.keeps_all;
}

pub returns-in-Range : goal.returns-in-Range
returns-in-Range g c = record {
  step = rw c.in-Range.is c.play_read-in-Range.ensures.step;
  memory = rw c.in-Range.is c.play_read-in-Range.ensures.memory;
  index_kept = if_err c.play_read-in-Range.result refl;
  desk_kept = c.play_read-in-Range.ensures.err;
  serves = c.play_read-in-Range.ensures.serves;
  keeps_all = c.play_read-in-Range.ensures.keeps_all;
}

pub returns-in-Locate : goal.returns-in-Locate
returns-in-Locate g c = record {
  step = rw c.in-Locate.is c.play_read-in-Locate.ensures.step;
  memory = rw c.in-Locate.is c.play_read-in-Locate.ensures.memory;
  index_kept = if_err c.play_read-in-Locate.result refl;
  desk_kept = c.play_read-in-Locate.ensures.err;
  serves = c.play_read-in-Locate.ensures.serves;
  keeps_all = c.play_read-in-Locate.ensures.keeps_all;
}

pub returns-in-First : goal.returns-in-First
returns-in-First g c = record {
  step = rw c.in-First.is c.play_read-in-First.ensures.step;
  memory = rw c.in-First.is c.play_read-in-First.ensures.memory;
  index_kept = if_err c.play_read-in-First.result refl;
  desk_kept = c.play_read-in-First.ensures.err;
  serves = c.play_read-in-First.ensures.serves;
  keeps_all = c.play_read-in-First.ensures.keeps_all;
}

pub returns-in-Last : goal.returns-in-Last
returns-in-Last g c = record {
  step = rw c.in-Last.is c.play_read-in-Last.ensures.step;
  memory = rw c.in-Last.is c.play_read-in-Last.ensures.memory;
  index_kept = if_err c.play_read-in-Last.result refl;
  desk_kept = c.play_read-in-Last.ensures.err;
  serves = c.play_read-in-Last.ensures.serves;
  keeps_all = c.play_read-in-Last.ensures.keeps_all;
}

pub returns-in-Audit : goal.returns-in-Audit
returns-in-Audit g c = record {
  step = rw c.in-Audit.is c.play_audit.ensures.step;
  memory = rw c.in-Audit.is c.play_audit.ensures.memory;
  index_kept = if_err c.play_audit.result refl;
  desk_kept = if_err c.play_audit.result refl;
  serves = c.requires.serves;
  keeps_all = λ keeps. keeps;
}

pub returns-in-Commit : goal.returns-in-Commit
returns-in-Commit g c = record {
  step = rw c.in-Commit.is c.play_commit.ensures.step;
  memory = rw c.in-Commit.is c.play_commit.ensures.memory;
  index_kept = c.play_commit.ensures.err;
  desk_kept = if_err c.play_commit.result refl;
  serves = c.play_commit.ensures.serves;
  keeps_all = c.play_commit.ensures.keeps_all;
}

pub returns-in-Number : goal.returns-in-Number
returns-in-Number g c = record {
  step = rw c.in-Number.is c.play_number.ensures;
  memory = tt;
  index_kept = tt;
  desk_kept = tt;
  serves = c.requires.serves;
  keeps_all = λ keeps. keeps;
}

pub returns-in-Len : goal.returns-in-Len
returns-in-Len g c = record {
  step = rw c.in-Len.is c.play_len.ensures;
  memory = tt;
  index_kept = tt;
  desk_kept = tt;
  serves = c.requires.serves;
  keeps_all = λ keeps. keeps;
}

pub returns-in-Checkpoint : goal.returns-in-Checkpoint
returns-in-Checkpoint g c = record {
  step = rw c.in-Checkpoint.is c.play_checkpoint.ensures.step;
  memory = rw c.in-Checkpoint.is c.play_checkpoint.ensures.memory;
  index_kept = c.play_checkpoint.ensures.err;
  desk_kept = if_err c.play_checkpoint.result refl;
  serves = c.play_checkpoint.ensures.serves;
  keeps_all = c.play_checkpoint.ensures.keeps_all;
}
