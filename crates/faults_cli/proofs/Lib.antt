mod EndingLaws
