mod RunningLemmas
